-- The argument in the order in which it is told: Calls says that tape and promises are one, Tapes what is promised of every tape, Words of a text on the page after it.
pub mod Calls
pub mod Handed
pub mod Records
pub mod Room
pub mod Tapes
pub mod Words

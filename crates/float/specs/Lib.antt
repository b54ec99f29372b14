pub mod Numbers
pub mod Refuse
pub mod Bands
pub mod Page
pub mod Clear
pub mod Fit
pub mod Search
pub mod Place
pub mod Slot
pub mod Calculator
pub mod Answers
-- for the contracts of inner functions alone: no promise to a reader names them
pub mod Head
pub mod Plan
pub mod Hold
pub mod Quest

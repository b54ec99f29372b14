-- The definitions: Numbers is what a reader must believe, the others are what the laws are stated with.
pub mod Numbers
pub mod Key
pub mod Round
pub mod Within
pub mod Sixty

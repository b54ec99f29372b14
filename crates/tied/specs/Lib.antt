-- What the tie speaks of.
pub mod Acts

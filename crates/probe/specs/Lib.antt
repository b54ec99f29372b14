-- The definitions.
pub mod Truth
pub mod Kept

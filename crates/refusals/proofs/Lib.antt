pub mod Decimals
pub mod Outcome
pub mod Three
pub mod Exactly
pub mod Printed

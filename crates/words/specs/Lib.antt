pub mod Text
pub mod Lines
pub mod Layout
pub mod Refused
-- for the contracts of inner functions; of these `rising_reached`, a promise about speed, names one
pub mod Laid

pub mod Bytes
pub mod Record
pub mod Lines
pub mod Tape
pub mod Text
-- for the contracts of inner functions alone: no promise to a reader names them
pub mod Put

-- What the promises speak of.
pub mod Runs
-- the rows of the table of refusals that calls and texts share
pub mod Rows

-- The laws, a subject to a file, in the order in which they build on each other.
pub mod Tests
pub mod Fractions
pub mod Magnitude
pub mod Keys
pub mod Order
pub mod Larger
pub mod Rounding
pub mod Sums
pub mod Plain
pub mod Limits
pub mod Exact64
pub mod Index64
pub mod Is64
pub mod Tolerance
pub mod Wide

-- laws for the code; a function's proof stands in the folder of its name
pub mod Laid
pub mod Judging
pub mod Spans
pub mod Taking
pub mod Standing
pub mod Going
-- the promises: a turn, the lines that come of turns, and what is said of them
pub mod Turned
pub mod Setting
pub mod Filled
pub mod Tiling
pub mod Moving
pub mod Checked
pub mod Ready
pub mod Turns
pub mod Limits
pub mod Refusals
-- that no line lies on a box: a text in whole 64ths, the edges of its lines, and what their words measure
pub mod Sixty
pub mod Edges
pub mod Measured
pub mod Clear
pub mod Promises

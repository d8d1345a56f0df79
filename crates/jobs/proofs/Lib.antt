pub mod Parts
pub mod InOrder
pub mod BothWays
pub mod Determined
pub mod AtZero
pub mod Refusals
pub mod Begins

pub mod Accepted
pub mod Ends
pub mod Machines
pub mod Tied
pub mod Begins
pub mod Determined
pub mod Apart

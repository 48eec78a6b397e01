pub mod Sizes
pub mod Runs
pub mod Ends

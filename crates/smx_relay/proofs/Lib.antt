pub mod Running
pub mod Standing
pub mod Sizing

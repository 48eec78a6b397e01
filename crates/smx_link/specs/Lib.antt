pub mod Links
pub mod Wiring

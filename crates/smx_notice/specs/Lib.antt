pub mod Lines
pub mod Metered

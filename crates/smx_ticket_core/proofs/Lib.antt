pub mod Changes
pub mod Lists
pub mod Rows
pub mod Soundness
pub mod Holds
pub mod Reach

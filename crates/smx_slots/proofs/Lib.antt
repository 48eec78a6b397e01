pub mod Counting
pub mod Hinting
pub mod Joining
pub mod Moving
pub mod Pairs
pub mod Repeating
pub mod Turning

pub mod Address
pub mod Keys
pub mod Choices
pub mod Settings
pub mod Lines
pub mod Unread

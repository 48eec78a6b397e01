pub mod Routing
pub mod Window
pub mod Private

pub mod Layouts
pub mod Reading
pub mod Bodies

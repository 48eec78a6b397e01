pub mod Sending
pub mod Rising

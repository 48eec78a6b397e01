pub mod Apart
pub mod Holding
pub mod Numbers
pub mod Owning
pub mod Routed
pub mod Tying

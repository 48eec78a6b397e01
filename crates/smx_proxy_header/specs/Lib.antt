pub mod Header
pub mod Text
pub mod Private

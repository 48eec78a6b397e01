pub mod Letters
pub mod Boxes
pub mod Private

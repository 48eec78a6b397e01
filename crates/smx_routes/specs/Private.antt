-- What contracts of private functions, models and invariants cite: no public contract does.
pub mod Holders
pub mod Owned
pub mod Tables
pub mod WindowFields

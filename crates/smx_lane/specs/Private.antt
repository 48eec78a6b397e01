-- What contracts of private functions, models and invariants cite: no public contract does.
pub mod Ages
pub mod Places
pub mod Rows
pub mod ClientRows
pub mod Window

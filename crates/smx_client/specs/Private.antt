-- What contracts of private functions, models and invariants cite: no public contract does.
pub mod Lists

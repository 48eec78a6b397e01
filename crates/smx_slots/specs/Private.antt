-- What models and invariants cite: no public contract does.
pub mod Bells
pub mod Entries
pub mod LedgerFields
pub mod LineFields
pub mod Sorted

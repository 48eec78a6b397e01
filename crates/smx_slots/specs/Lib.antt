pub mod Bells
pub mod Hints
pub mod Ledger
pub mod Lines
pub mod Rolls
pub mod Schedules
pub mod Private

-- What contracts of private functions cite: no public contract does.
pub mod Lanes
pub mod Inboxes
pub mod Lending

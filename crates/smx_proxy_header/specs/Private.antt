-- What contracts of private functions cite: no public contract does.
pub mod Front

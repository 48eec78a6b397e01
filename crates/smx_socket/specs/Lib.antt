pub mod Outcomes
pub mod Connections
pub mod Systems

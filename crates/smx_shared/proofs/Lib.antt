pub mod Lists
pub mod Holding
pub mod OwnNotes
pub mod Passing
mod Submitting
pub mod ListSubmitting
pub mod PortInvariants
pub mod Leaving
pub mod Rounds
pub mod Roomy
pub mod Calls
pub mod ListServing
pub mod Entering
pub mod Making
pub mod Knowing

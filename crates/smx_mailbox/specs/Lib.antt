pub mod Mailbox
pub mod Private

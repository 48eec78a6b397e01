pub mod Login
pub mod Rules
pub mod Binds
pub mod ClientTable
pub mod UpstreamTable
pub mod Moments
pub mod ClientMoments
pub mod ClientAsks

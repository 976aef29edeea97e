pub mod Domain
pub mod State
pub mod Agreed
pub mod Actions
pub mod Group
pub mod Synchrony

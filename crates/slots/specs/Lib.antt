pub mod Slots
pub mod Spent
pub mod Fit

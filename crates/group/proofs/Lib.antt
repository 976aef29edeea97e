pub mod Example
pub mod Refused
pub mod Batches

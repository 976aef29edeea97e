pub mod Members
pub mod Sameness
pub mod Words

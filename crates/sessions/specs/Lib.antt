pub mod Play
pub mod Sessions
pub mod Slips
pub mod Opened

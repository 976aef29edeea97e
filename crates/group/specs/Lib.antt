pub mod Group
pub mod Logs
pub mod Demand3
pub mod WingRack
pub mod Opened

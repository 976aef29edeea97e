pub mod Beyond
pub mod Bits
pub mod Held
pub mod Marks

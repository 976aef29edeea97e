pub mod Beyond
pub mod Bits
pub mod Halves
pub mod Packing
pub mod Sender
pub mod Slot

pub mod Bytes
pub mod Messages
pub mod Kinds
pub mod Layouts
pub mod Codec
pub mod Fields
pub mod Fits
pub mod Refusals

pub mod Words
pub mod Sets
pub mod Views
pub mod Cuts

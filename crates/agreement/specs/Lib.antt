pub mod Named
pub mod Due
pub mod Agreement
pub mod Tops
pub mod Spans
pub mod Pass

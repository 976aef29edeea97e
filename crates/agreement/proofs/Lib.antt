pub mod Numbers
pub mod Largest
pub mod Due
pub mod Found
pub mod Alike
pub mod Rows
pub mod Passed
pub mod Going

pub mod Tests
pub mod All
pub mod Run
pub mod First
pub mod Found
pub mod Count
pub mod Lists
pub mod Bits

pub mod Views
pub mod Abstract

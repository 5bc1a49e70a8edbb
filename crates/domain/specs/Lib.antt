pub mod Attributes
pub mod Calendar
pub mod Cells
pub mod Refusals
pub mod Text

pub mod Meeting
pub mod TwoDigits

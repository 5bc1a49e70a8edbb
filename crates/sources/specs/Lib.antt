pub mod Answers
pub mod Collections
pub mod Meters
pub mod Pairs
pub mod Records
pub mod Selections

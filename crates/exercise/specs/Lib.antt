pub mod Statements
pub mod Words

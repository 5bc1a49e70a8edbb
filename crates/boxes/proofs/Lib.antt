pub mod Appending
pub mod Counting
pub mod Division
pub mod Lawfulness
pub mod Narrowing
pub mod Places
pub mod Regions
pub mod Remainders

pub mod Answering
pub mod Collecting
pub mod Counts
pub mod Filling
pub mod Members
pub mod Sameness

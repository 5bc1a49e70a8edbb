pub mod Cuts
pub mod Pieces
pub mod Plans
pub mod Splits
pub mod Text

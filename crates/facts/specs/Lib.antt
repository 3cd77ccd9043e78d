pub mod Pick
pub mod Same
pub mod Search
pub mod Pieces
pub mod Sums
pub mod Limits

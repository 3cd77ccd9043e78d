pub mod Ladder
pub mod Nearest
pub mod Spread
pub mod Views

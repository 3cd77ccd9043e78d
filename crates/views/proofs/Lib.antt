pub mod Laws
pub mod Levels
pub mod Runs
pub mod Signs
pub mod Spreads
pub mod ViewLaws
pub mod Theorems
pub mod Owned

pub mod Values
pub mod Suits

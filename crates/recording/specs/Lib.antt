pub mod Carve
pub mod Stream
pub mod Steps
pub mod Whole

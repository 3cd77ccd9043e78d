pub mod Entries
pub mod Find
pub mod Work
pub mod Tidy

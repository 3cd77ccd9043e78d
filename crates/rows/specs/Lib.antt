pub mod Keys
pub mod Rows
pub mod Find
pub mod Shares
pub mod Tidy

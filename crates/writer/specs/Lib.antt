pub mod Append
pub mod Behind

pub mod Types
pub mod Retyped

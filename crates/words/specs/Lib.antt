pub mod Words
pub mod Types

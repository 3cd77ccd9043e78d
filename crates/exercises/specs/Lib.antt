pub mod Messages
pub mod Exercises
pub mod Table

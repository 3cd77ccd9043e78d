pub mod Tables
pub mod Alongside
pub mod Mornings
pub mod Seconds

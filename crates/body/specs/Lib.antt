pub mod Ranges
pub mod Faults
pub mod Read
pub mod Shown
pub mod Places
pub mod Undefined
pub mod Nanoseconds
pub mod Editions

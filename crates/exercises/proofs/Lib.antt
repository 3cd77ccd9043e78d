pub mod Right
pub mod Example
pub mod Witness
pub mod Bits
pub mod Nanoseconds
pub mod Editions
pub mod Places

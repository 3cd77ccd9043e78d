pub mod Laws
pub mod Good
pub mod Places
pub mod Nanoseconds
pub mod Editions
pub mod PacketBytes

pub mod Bits
pub mod Telling
pub mod Bodies
pub mod Chain
pub mod Streams
pub mod Codes
pub mod Converting
pub mod Writing

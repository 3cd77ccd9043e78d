pub mod Packet
pub mod Piece
pub mod Kept

pub mod Laws
pub mod DecimalLaws
pub mod SignedLaws
pub mod TickerLaws
pub mod Vectors

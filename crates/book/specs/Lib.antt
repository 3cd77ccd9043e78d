pub mod Plan
pub mod Book
pub mod Ledger
pub mod Parts
pub mod Tidy

pub mod Types
pub mod Texts
pub mod Drafts
pub mod Held

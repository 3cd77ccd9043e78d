pub mod Numbers
pub mod Drafts
pub mod Back

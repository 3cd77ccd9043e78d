pub mod Spans
pub mod Left

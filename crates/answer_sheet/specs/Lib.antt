pub mod Keys
pub mod Lines
pub mod Page
pub mod Sheet
pub mod Types

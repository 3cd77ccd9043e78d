pub mod Cases
pub mod Alone
pub mod Found
pub mod Noted
pub mod Lengths

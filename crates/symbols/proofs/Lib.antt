pub mod EntryLaws
pub mod FindLaws
pub mod UpdateLaws
pub mod StartLaws
pub mod OrderLaws

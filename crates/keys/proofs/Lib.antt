pub mod Every
pub mod RowLaws
pub mod Laws

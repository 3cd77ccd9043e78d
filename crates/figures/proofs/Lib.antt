pub mod NumberLaws
pub mod PlaceLaws
pub mod FormLaws
pub mod Laws

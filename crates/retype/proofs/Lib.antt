pub mod ExceptionLaws
pub mod Laws
pub mod Named

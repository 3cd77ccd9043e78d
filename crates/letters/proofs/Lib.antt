pub mod HexLaws
pub mod Laws
pub mod ReadLaws

-- Laws of the format.
pub mod FormatLaws
pub mod NumberLaws
pub mod LengthLaws
pub mod WordLaws
pub mod PartLaws

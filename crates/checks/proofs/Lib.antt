-- What the shared tests say, as facts on numbers.
pub mod Laws
pub mod StandLaws

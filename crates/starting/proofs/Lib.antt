-- The laws of what a start takes.
pub mod TakenLaws

-- The laws of a block that is read from its words, and of the total.
pub mod LoadLaws
pub mod TotalLaws

-- The numbers of documents 01 and 02.
pub mod Sizes

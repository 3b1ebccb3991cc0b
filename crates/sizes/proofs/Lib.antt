-- The numbers as documents 01 and 02 have them.
pub mod Numerals

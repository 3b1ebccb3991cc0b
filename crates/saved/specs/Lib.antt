-- What crosses to a program in another language, as words.
pub mod Settle

-- What the calls that lines make do and write.
pub mod Calls

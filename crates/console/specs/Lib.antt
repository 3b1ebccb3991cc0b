-- What every line does.
pub mod Serve

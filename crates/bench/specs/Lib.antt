-- What the contracts of `bench` cite.
pub mod Bench
pub mod Walk

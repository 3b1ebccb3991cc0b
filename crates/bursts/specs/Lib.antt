-- What the contract of `bursts` cites.
pub mod Bursts

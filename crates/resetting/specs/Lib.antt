-- What the contracts of `resetting` cite.
pub mod Steps

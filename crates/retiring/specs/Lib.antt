-- What the contracts of `retiring` cite.
pub mod Steps

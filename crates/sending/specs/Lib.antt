-- What the contracts of `sending` cite.
pub mod Sent

-- What the contracts of `storing` cite.
pub mod Ready
pub mod Stored

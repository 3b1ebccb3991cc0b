-- What the contracts of `admission` cite.
pub mod Admitted

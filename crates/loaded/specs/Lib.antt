-- What the contracts of `loaded` cite.
pub mod State

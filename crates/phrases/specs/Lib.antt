-- What the contracts of `phrases` cite.
pub mod Text

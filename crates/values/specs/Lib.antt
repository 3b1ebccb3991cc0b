-- What the contracts of `values` cite.
pub mod Values

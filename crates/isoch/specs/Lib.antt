-- What the contracts of `isoch` cite.
pub mod Packed

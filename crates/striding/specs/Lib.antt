-- What the contracts of `striding` cite.
pub mod Stride
pub mod Deferred

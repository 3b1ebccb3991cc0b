-- What the contracts of `told` cite.
pub mod Answer
pub mod Request

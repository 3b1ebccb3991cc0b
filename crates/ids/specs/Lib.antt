-- The definitions that the contracts of `ids` cite, and those in which its laws say what they mean.
pub mod Free
pub mod Lookup
pub mod Order

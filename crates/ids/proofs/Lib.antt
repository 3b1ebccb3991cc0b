-- The laws of the id search and of the lookup, and worked examples.
pub mod AnyLaws
pub mod Examples
pub mod LookupLaws
pub mod SearchLaws

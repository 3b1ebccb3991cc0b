-- The laws of a store.
pub mod StoreLaws

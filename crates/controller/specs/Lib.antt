-- What the contracts of `controller` cite.
pub mod Rule

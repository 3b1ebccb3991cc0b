-- What the contracts of `page` cite.
pub mod Page
pub mod Lent

-- What the contract of `event` cites.
pub mod Event

-- What the contracts of `refusal` cite.
pub mod Misplaced

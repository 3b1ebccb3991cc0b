-- The laws that the proofs of `building` share.
pub mod SubmitLaws

-- The law of a TD's first TRB.
pub mod FirstLaws

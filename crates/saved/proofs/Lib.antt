-- The laws of what crosses.
pub mod LeavesLaws
pub mod NarrowLaws
pub mod UnmadeLaws

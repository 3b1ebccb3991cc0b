-- The laws of the walk over packets.
pub mod FitLaws
pub mod KeepLaws
pub mod MirrorLaws
pub mod PlaceLaws
pub mod WalkLaws

-- What the contracts of `reclaiming` cite beside the definitions of the dock.
pub mod Parts

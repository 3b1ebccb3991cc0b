-- What the contracts of `worth` cite beside the definitions of the dock.
pub mod Values

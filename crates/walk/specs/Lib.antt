-- What the contracts of `walk` cite beside the definitions of the dock and of `marking`.
pub mod Loaded

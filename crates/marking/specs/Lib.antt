-- What the contracts of `marking` cite beside the definitions of the dock.
pub mod Marking
pub mod Words

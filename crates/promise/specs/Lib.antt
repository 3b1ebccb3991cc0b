-- A run of the dock with its controller, and the list of TRBs that it is held against.
pub mod Controller
pub mod Requested
pub mod Run
pub mod Whole

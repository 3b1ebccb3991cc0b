-- The layouts of the TRBs, and the standard's cycle rule.
pub mod Layouts
pub mod Cycle

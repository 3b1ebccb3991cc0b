-- The definitions of the dock: what it may hold, its state, one file for each call, in document 01's order and words, a run of calls as data,
-- and what every call answers by the rows.
pub mod Limits
pub mod State
pub mod Requests
pub mod Trbs
pub mod RowOne
pub mod Make
pub mod Configure
pub mod Start
pub mod NextStore
pub mod Submit
pub mod HandOver
pub mod Worth
pub mod Residual
pub mod Reclaim
pub mod Cancel
pub mod Retire
pub mod Reset
pub mod Commands
pub mod Numbers
pub mod Refusals
pub mod Run
pub mod Tests

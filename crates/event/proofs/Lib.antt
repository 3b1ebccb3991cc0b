-- The law of the event reader, and readings.
pub mod EventLaws
mod Readings

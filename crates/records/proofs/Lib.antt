-- The laws of the request records.
pub mod KindLaws
pub mod StateLaws
pub mod RecordLaws

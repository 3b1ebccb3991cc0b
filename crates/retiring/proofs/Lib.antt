-- The law of a retire, record by record.
pub mod RetireLaws

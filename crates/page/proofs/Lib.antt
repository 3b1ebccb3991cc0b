-- The laws of `page`.
pub mod PageLaws
pub mod TextLaws

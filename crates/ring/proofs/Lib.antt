-- The laws of the stores and of slots, and of a position that is lent.
pub mod RuleLaws
pub mod SlotLaws

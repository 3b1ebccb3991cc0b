-- The laws of the packets' stores.
pub mod PacketLaws

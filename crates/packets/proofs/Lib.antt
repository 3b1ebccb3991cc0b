-- The laws of `packets`.
pub mod PacketLaws

-- What the contracts of `packets` cite.
pub mod Packets

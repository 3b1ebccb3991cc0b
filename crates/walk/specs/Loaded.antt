-- The first packets of a record, out of their words; the others of a block of 64 ask for nothing.
use Rattle.std.specs.Prelude.{ℕ, zero, suc, List, set, replicate}
use Rattle.sizes.specs.Sizes.{packet_count}
use Rattle.packets.specs.Packets.{packet_at}
use Rattle.packets.specs.declared.Packet.{Packet}
use Rattle.marking.specs.Marking.{nowhere}

unfoldable pub loaded : ℕ → List ℕ → ℕ → List Packet
loaded zero l number = replicate packet_count nowhere
loaded (suc n) l number = set (loaded n l number) n (packet_at l number n)

-- A packet record: what its word says, and the word of a packet. Document 01, "What a dock may hold" and "What a packet is worth".
use Rattle.std.specs.Prelude.{ℕ, ◌+◌, ◌*◌, List, [], ◌∷◌, eqb, get_or, set}
use Rattle.base.specs.Fields.{Field, field, flag, word, bits}
use Rattle.sizes.specs.Sizes.{packet_count}
use Rattle.packets.specs.declared.Packet.{Packet}

-- Requested bytes, counted bytes, and whether the packet is marked as counted: any word is a packet.
abbrev pub packet_of : ℕ → Packet
packet_of w = record { requested = bits 0 32 w; actual = bits 32 31 w; marked = eqb (bits 63 1 w) 1 }

abbrev pub packet_fields : Packet → List Field
packet_fields p = field 0 32 p.requested ∷ field 32 31 p.actual ∷ field 63 1 (flag p.marked) ∷ []

abbrev pub packet_word : Packet → ℕ
packet_word p = word (packet_fields p)

-- Where packet k of record r stands.
abbrev pub packet_index : ℕ → ℕ → ℕ
packet_index r k = packet_count * r + k

unfoldable pub packet_at : List ℕ → ℕ → ℕ → Packet
packet_at packets r k = packet_of (get_or packets (packet_index r k) 0)

-- One packet changed, and no other word.
unfoldable pub put_packet : List ℕ → ℕ → ℕ → Packet → List ℕ
put_packet packets r k p = set packets (packet_index r k) (packet_word p)

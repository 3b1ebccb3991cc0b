-- A packet whose numbers fit is read back from its word as it is, its word fits 64 bits, and a packet that is put changes no other. Assumes nothing.
use Prim.Native.Nat.{ℕ, ◌^◌, ◌<◌}
use mathlib.Core.List.{List}
use mathlib.Core.Path.{◌≡◌, refl, ap, ◌∙◌}
use native.Mathlib.Omega.{arith}
use lib.ListN.{length}
use lib.Seq.{get_or-set_same, get_or-set_other}
use Rattle.base.proofs.ReadBack.{read_back, read_back_exact, word_below, flag_read}
use Rattle.packets.specs.Packets.{packet_fields, packet_word, packet_of, packet_index, packet_at, put_packet}
use Rattle.packets.specs.declared.Packet.{Packet}

pub word_fits : (p : Packet) → packet_word p < 2 ^ 64
word_fits p = word_below 0 64 (packet_fields p) refl

pub packet_reads : (p : Packet) → p.requested < 2 ^ 32 → p.actual < 2 ^ 31 → packet_of (packet_word p) ≡ p
packet_reads p requested actual =
    let fs = packet_fields p in
    rw (
      read_back_exact 0 64 fs 0 refl (omega arith) requested,
      read_back_exact 0 64 fs 1 refl (omega arith) actual,
      read_back 0 64 fs 2 refl (omega arith),
      flag_read p.marked,
    )

module _ (l : List ℕ) (r k : ℕ) (p : Packet) where
  pub packet_put_lem : packet_index r k < length l → p.requested < 2 ^ 32 → p.actual < 2 ^ 31 → packet_at (put_packet l r k p) r k ≡ p
  unfolding packet_at put_packet
  packet_put_lem fits requested actual =
      ap packet_of (get_or-set_same l (packet_index r k) (packet_word p) 0 fits) ∙ packet_reads p requested actual

  pub packet_other : (s j : ℕ) → (packet_index s j ≡ packet_index r k → ⊥) → packet_at (put_packet l r k p) s j ≡ packet_at l s j
  unfolding packet_at put_packet
  packet_other s j differs = ap packet_of (get_or-set_other l (packet_index r k) (packet_index s j) (packet_word p) 0 differs)

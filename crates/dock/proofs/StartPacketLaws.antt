-- The packets that a start writes: packet k of the record taken asks for the k-th length, or 0 with no packets, and is unmarked; those of every other
-- record are as they were. Assumes nothing.
use Prim.Native.Nat.{ℕ, zero, suc, ◌+◌, ◌*◌, ◌^◌, ◌<◌, ◌≤◌}
use mathlib.Core.Bool.{Bool, false}
use mathlib.Core.List.{List, [], ◌∷◌}
use mathlib.Core.Logic.{inl, inr, ⊎_elim}
use mathlib.Core.Path.{◌≡◌, refl, sym, ap, ◌∙◌}
use native.Mathlib.Omega.{arith}
use lib.ListN.{length, get_or}
use lib.Seq.{length-paste}
use Rattle.base.proofs.Compare.{lt_or_le, compared}
use Rattle.base.proofs.Pasted.{pasted_same, pasted_before, pasted_behind}
use Rattle.sizes.specs.Sizes.{record_count, packet_count, packets_size, longest}
use Rattle.packets.specs.Packets.{packet_index, packet_of, packet_word, packet_at}
use Rattle.packets.specs.declared.Packet.{Packet}
use Rattle.packets.proofs.PacketLaws.{packet_reads}
use Rattle.dock.specs.declared.What.{What}
use Rattle.dock.specs.declared.What.TheVariants.{Control, Bulk, Interrupt, Isoch}
use Rattle.dock.specs.Start.{too_long, at_least_one, write_packets}
use Rattle.dock.proofs.RefusalTestLaws.{by_too_long_isoch}

-- An unmarked packet that asks for so much.
abbrev pub asking : ℕ → Packet
asking n = record { requested = n; actual = 0; marked = false }

word_asks : (n : ℕ) → n < 2 ^ 32 → packet_of n ≡ asking n
word_asks n h =
    let whole : packet_word (asking n) ≡ n = omega arith in
    ap packet_of (sym whole) ∙ packet_reads (asking n) h (omega arith)

some_packets : (ns : List ℕ) → length ns ≤ packet_count → length (at_least_one ns) ≤ packet_count
some_packets [] h = omega arith
some_packets (n ∷ ns) h = h

module _ (incoming : Bool) (size : ℕ) (lengths : List ℕ) (short : too_long (Isoch incoming) size lengths ≡ false) where
  pub few_packets : length lengths ≤ packet_count
  few_packets =
      ⊎_elim
      (λ (h : packet_count < length lengths). absurd ((by_too_long_isoch incoming size lengths).not_so short (inl (inl h))))
      (λ (h : length lengths ≤ packet_count). h)
      (lt_or_le packet_count (length lengths))

  pub packet_short : (k : ℕ) → k < length lengths → get_or lengths k 0 ≤ longest
  packet_short k l =
      ⊎_elim
      (λ (h : longest < get_or lengths k 0). absurd ((by_too_long_isoch incoming size lengths).not_so short (inl (inr (k, l, h)))))
      (λ (h : get_or lengths k 0 ≤ longest). h)
      (lt_or_le longest (get_or lengths k 0))

pub one_short : (ns : List ℕ) (k : ℕ) → ((j : ℕ) → j < length ns → get_or ns j 0 ≤ longest) → k < length (at_least_one ns) → get_or (at_least_one ns) k 0 ≤ longest
one_short [] zero short l = omega arith
one_short [] (suc k) short l = absurd (omega arith)
one_short (n ∷ ns) k short l = short k l

module _ (packets : List ℕ) (r : ℕ) (incoming : Bool) (size : ℕ) (lengths : List ℕ)
    (sized : length packets ≡ packets_size) (below : r < record_count) (short : too_long (Isoch incoming) size lengths ≡ false) where
  packet_room : packet_count * r + length (at_least_one lengths) ≤ length packets
  packet_room = omega (arith, some_packets lengths (few_packets incoming size lengths short))

  -- An ISO request's packet k asks for the k-th length, "No packets means one packet of length 0", and is unmarked.
  pub packet_written : (k : ℕ) → k < length (at_least_one lengths)
      → packet_at (write_packets packets r (Isoch incoming) lengths) r k ≡ asking (get_or (at_least_one lengths) k 0)
  unfolding packet_at write_packets
  packet_written k l =
      let fine = one_short lengths k (packet_short incoming size lengths short) l in
      ap packet_of (pasted_same packets (packet_count * r) (at_least_one lengths) packet_room k l)
      ∙ word_asks (get_or (at_least_one lengths) k 0) (omega arith)

  -- A packet of the record that the request does not have is as it was,
  pub packet_behind : (k : ℕ) → length (at_least_one lengths) ≤ k → packet_at (write_packets packets r (Isoch incoming) lengths) r k ≡ packet_at packets r k
  unfolding packet_at write_packets
  packet_behind k l = ap packet_of (pasted_behind packets (packet_count * r) (at_least_one lengths) packet_room (packet_index r k) (omega arith))

  -- the packets of every other record are as they were,
  pub packets_kept : (s k : ℕ) → k < packet_count → (s ≡ r → ⊥)
      → packet_at (write_packets packets r (Isoch incoming) lengths) s k ≡ packet_at packets s k
  unfolding packet_at write_packets
  packets_kept s k l differs =
      ap packet_of
      (⊎_elim
      (λ (q : s ≡ r). absurd (differs q))
      (⊎_elim
      (λ (h : s < r). pasted_before packets (packet_count * r) (at_least_one lengths) packet_room (packet_index s k) (omega arith))
      (λ (h : r < s). pasted_behind packets (packet_count * r) (at_least_one lengths) packet_room (packet_index s k)
      (omega (arith, some_packets lengths (few_packets incoming size lengths short)))))
      (compared s r))

  -- and the table keeps its length.
  pub packets_length : length (write_packets packets r (Isoch incoming) lengths) ≡ length packets
  unfolding write_packets
  packets_length = length-paste packets (packet_count * r) (at_least_one lengths) (length (at_least_one lengths)) packet_room (omega arith)

-- The same of any request: only an ISO request has packets.
module _ (packets : List ℕ) (r : ℕ) (lengths : List ℕ) (sized : length packets ≡ packets_size) (below : r < record_count) where
  pub others_packets_kept : (what : What) (size : ℕ) → too_long what size lengths ≡ false → (s k : ℕ) → k < packet_count → (s ≡ r → ⊥)
      → packet_at (write_packets packets r what lengths) s k ≡ packet_at packets s k
  unfolding write_packets
  others_packets_kept (Control type request value index) size short s k l differs = refl
  others_packets_kept (Bulk incoming) size short s k l differs = refl
  others_packets_kept (Interrupt incoming) size short s k l differs = refl
  others_packets_kept (Isoch incoming) size short s k l differs = packets_kept packets r incoming size lengths sized below short s k l differs

  pub written_length : (what : What) (size : ℕ) → too_long what size lengths ≡ false → length (write_packets packets r what lengths) ≡ length packets
  unfolding write_packets
  written_length (Control type request value index) size short = refl
  written_length (Bulk incoming) size short = refl
  written_length (Interrupt incoming) size short = refl
  written_length (Isoch incoming) size short = packets_length packets r incoming size lengths sized below short

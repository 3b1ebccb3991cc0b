-- The ring as a program has it: a list of words, four a slot, read and stored as `trb` has it, as `Slots`. Bit 0 of word 3 is the cycle, bits 10 to
-- 15 are the type; type 6 is Link.
-- Assumes nothing.
use Rattle.std.specs.Prelude.{◌≡◌, refl, ◌≢◌, Bool, true, false, List, ℕ, zero, suc, ◌+◌, ◌-◌, ◌*◌, ◌/◌, ◌%◌, ◌^◌, ◌≤◌, ◌<◌, eqb, leb, length, get_or, replicate}
use Rattle.std.proofs.Common.{sym, ap, ◌∙◌, arith, leb-true, le-leb}
use Rattle.std.proofs.lemmas.List.{length-replicate}
use Rattle.base.specs.First.{pick}
use Rattle.base.specs.Fields.{flag}
use Rattle.trb.specs.Cycle.{cycle_of, type_of}
use Rattle.trb.specs.Layouts.{words_at, put_words}
use Rattle.trb.specs.declared.Words.{Words}
use Rattle.trb.proofs.BlockLaws.{words_length, words_same, words_other}
use Rattle.order.specs.Model.{Slots, Zeroed}

-- the words with this cycle bit
unfoldable pub set_cycle : Bool → Words → Words
set_cycle c t = record { w0 = t.w0; w1 = t.w1; w2 = t.w2; w3 = t.w3 - t.w3 % 2 + flag c }

unfoldable pub link_type : Words → Bool
link_type t = eqb (type_of t) 6

-- the words in slot i, where the list has such a slot
unfoldable pub set_slot : List ℕ → ℕ → Words → List ℕ
set_slot r i t = pick (leb (4 * i + 4) (length r)) (put_words r i t) r

-- ---- the laws

pub cycle_set : (c : Bool) (t : Words) → cycle_of (set_cycle c t) ≡ c
unfolding cycle_of set_cycle
cycle_set true t =
    let e : (t.w3 - t.w3 % 2 + 1) / 2 ^ 0 % 2 ^ 1 ≡ 1 = omega arith in
    rw e
cycle_set false t =
    let e : (t.w3 - t.w3 % 2 + 0) / 2 ^ 0 % 2 ^ 1 ≡ 0 = omega arith in
    rw e

-- bit 0 has no part in the bits from 10 on
high_bits : (m b : ℕ) → b < 2 → (2 * m + b) / 1024 ≡ m / 512
high_bits m b h = omega arith

type_kept : (w b : ℕ) → b < 2 → (w - w % 2 + b) / 1024 ≡ w / 1024
type_kept w b h =
    let new : w - w % 2 + b ≡ 2 * (w / 2) + b = omega arith in
    let old : 2 * (w / 2) + w % 2 ≡ w = omega arith in
    ap (λ (n : ℕ). n / 1024) new ∙ high_bits (w / 2) b h ∙ sym (high_bits (w / 2) (w % 2) (omega arith)) ∙ ap (λ (n : ℕ). n / 1024) old

flag_small : (c : Bool) → flag c < 2
flag_small true = omega arith
flag_small false = omega arith

pub link_set : (c : Bool) (t : Words) → link_type (set_cycle c t) ≡ link_type t
unfolding link_type type_of set_cycle
link_set c t = ap (λ (n : ℕ). eqb (n % 2 ^ 6) 6) (type_kept t.w3 (flag c) (flag_small c))

-- a store in a slot that the list has is that of `trb`
pub slot_stored_lem : (r : List ℕ) (i : ℕ) (t : Words) → 4 * i + 4 ≤ length r → set_slot r i t ≡ put_words r i t
unfolding set_slot
slot_stored_lem r i t h = rw (le-leb (4 * i + 4) (length r) h)

-- by whether it has it
length_by : (r : List ℕ) (i : ℕ) (t : Words) (b : Bool) → leb (4 * i + 4) (length r) ≡ b → length (pick b (put_words r i t) r) ≡ length r
length_by r i t true e = words_length r i t (leb-true (4 * i + 4) (length r) e)
length_by r i t false e = refl

pub length_slot : (r : List ℕ) (i : ℕ) (t : Words) → length (set_slot r i t) ≡ length r
unfolding set_slot
length_slot r i t = length_by r i t (leb (4 * i + 4) (length r)) refl

pub slot_same : (K : ℕ) (r : List ℕ) (i : ℕ) (t : Words) → length r ≡ 4 * suc K → i ≤ K → words_at (set_slot r i t) i ≡ t
slot_same K r i t fits inside =
    let h : 4 * i + 4 ≤ length r = omega arith in
    ap (λ (l : List ℕ). words_at l i) (slot_stored_lem r i t h) ∙ words_same r i t h

other_by : (r : List ℕ) (i j : ℕ) (t : Words) → j ≢ i → (b : Bool) → leb (4 * i + 4) (length r) ≡ b
    → words_at (pick b (put_words r i t) r) j ≡ words_at r j
other_by r i j t ne true e = words_other r i t (leb-true (4 * i + 4) (length r) e) j ne
other_by r i j t ne false e = refl

pub slot_other : (r : List ℕ) (i j : ℕ) (t : Words) → j ≢ i → words_at (set_slot r i t) j ≡ words_at r j
unfolding set_slot
slot_other r i j t ne = other_by r i j t ne (leb (4 * i + 4) (length r)) refl

-- ---- a ring of K + 1 slots in a list of words

abbrev pub flat : (K : ℕ) → Slots K
flat K =
    record {
      Ring = List ℕ;
      Trb = Words;
      Fits = λ r. length r ≡ 4 * suc K;
      read = words_at;
      write = set_slot;
      cycle_of = cycle_of;
      with_cycle = set_cycle;
      is_link = link_type;
      fits_write = λ r i t h. length_slot r i t ∙ h;
      read_same = slot_same K;
      read_other = slot_other;
      cycle_with = cycle_set;
      link_with = link_set;
    }

-- words of zero
pub get_d_zeros : (n i : ℕ) → ◌≡◌ {A = ℕ} (get_or (replicate n 0) i 0) 0
get_d_zeros zero i = refl
get_d_zeros (suc n) zero = refl
get_d_zeros (suc n) (suc i) = get_d_zeros n i

pub zeroed : (K : ℕ) → Zeroed (flat K) (replicate (4 * suc K) 0)
unfolding cycle_of words_at
zeroed K = record { fits = length-replicate (4 * suc K) 0; clear = λ i h. rw (get_d_zeros (4 * suc K) (4 * i + 3)) refl }

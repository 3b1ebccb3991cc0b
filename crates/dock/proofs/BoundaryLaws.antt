-- Document 02, "Rings must not cross 64 KiB": the test decides that no 64 KiB boundary lies within the ring (`by_boundary`), L 4,096 admits exactly the
-- multiples of 65,536 (`by_largest`); a ring of at most 4,096 slots that ends at a boundary crosses none (`ends_at`), nor does an aligned one
-- (`aligned_none`); where a ring crosses, making answers 13 (`crossing_made`) and every other call 1 (`crossing_called`). Assumes nothing.
use Prim.Native.Nat.{ℕ, zero, suc, ◌+◌, ◌-◌, ◌*◌, ◌/◌, ◌%◌, ◌^◌, ◌<◌, ◌≤◌}
use mathlib.Core.Bool.{Bool, true, false, not, ◌&&◌}
use mathlib.Core.List.{List, []}
use mathlib.Core.Logic.{⊎_elim}
use mathlib.Core.Path.{◌≡◌, refl, ap, ◌∙◌}
use native.Mathlib.Omega.{arith}
use lib.Dec.{eqb}
use lib.ListN.{length}
use Rattle.base.specs.First.{pick, first}
use Rattle.base.proofs.Compare.{lt_or_le}
use Rattle.base.proofs.Decide.{Decides, by_leb, by_eqb, by_true, both, reworded, if_so, if_not}
use Rattle.sizes.specs.Sizes.{fewest_slots, most_slots, alignment, boundary, trb_bytes, ring_size, records_size, packets_size}
use Rattle.dock.specs.declared.Endpoint.{Endpoint}
use Rattle.dock.specs.declared.Identity.{Identity}
use Rattle.dock.specs.declared.Shape.{Shape}
use Rattle.dock.specs.Limits.{slots_fit, base_fits, crosses_none, ids_fit, limits_hold}
use Rattle.dock.specs.RowOne.{fits, place_fits, fits_with}
use Rattle.dock.specs.State.{fresh}
use Rattle.dock.specs.Make.{sized, make_tests, make_no, make}
use Rattle.dock.specs.Configure.{plain_tests, plain_no}
use Rattle.dock.specs.Start.{start_tests}
use Rattle.dock.specs.NextStore.{store_tests}
use Rattle.dock.specs.Submit.{submit_tests}
use Rattle.dock.specs.HandOver.{hand_over_tests}
use Rattle.dock.specs.Reclaim.{reclaim_tests}
use Rattle.dock.specs.Cancel.{cancel_tests}
use Rattle.dock.specs.Retire.{record_tests}
use Rattle.dock.specs.Reset.{begin_tests, end_tests}
use Rattle.dock.specs.Numbers.{Numbered, outcome_number}
use Rattle.dock.specs.Run.{State, Call, configures, starts, stores, submits, hands, reclaims, cancels, retires, begins, ends, stops, resumes, points, answered}
use Rattle.dock.specs.Tests.{tests}
use Rattle.dock.proofs.AnsweredLaws.{answered_is, making_is}
use Rattle.dock.proofs.RefusalTestLaws.{by_limits}

-- ---- rings at both sides of a boundary

-- What making answers where all but L and base is in order.
abbrev made_at : ℕ → ℕ → ℕ
made_at slots base =
    make_no (ring_size slots) (ring_size slots) records_size packets_size (record { slots = slots; base = base }) (record { slot = 1; dci = 1; mask = 0 })

-- L 4,096 at 65,536, a page before and a page behind it, at 0, and at the last boundary below 2^64 and a page behind it.
pub largest_rings : (made_at 4096 65536 ≡ 0) × (made_at 4096 61440 ≡ 13) × (made_at 4096 69632 ≡ 13) × (made_at 4096 0 ≡ 0)
    × (made_at 4096 (2 ^ 64 - 65536) ≡ 0) × (made_at 4096 (2 ^ 64 - 61440) ≡ 13)
unfolding make_no make_tests sized limits_hold
largest_rings = (refl, refl, refl, refl, refl, refl)

-- In the page before a boundary 256 slots end there exactly, and a slot more crosses. From the second of the sixteen pages on 3,840 slots end at the next
-- boundary. The same at 2^64.
pub rings_to_the_end : (made_at 256 61440 ≡ 0) × (made_at 257 61440 ≡ 13) × (made_at 3840 4096 ≡ 0) × (made_at 3841 4096 ≡ 13)
    × (made_at 256 (2 ^ 64 - 4096) ≡ 0) × (made_at 257 (2 ^ 64 - 4096) ≡ 13)
unfolding make_no make_tests sized limits_hold
rings_to_the_end = (refl, refl, refl, refl, refl, refl)

-- Four of these rings, forged into an endpoint, at a call that knows 1 and 12 only.
abbrev called_at : ℕ → ℕ → ℕ
called_at slots base = plain_no (fresh (record { slots = slots; base = base }) (record { slot = 1; dci = 1; mask = 0 }))

pub rings_forged : (called_at 4096 65536 ≡ 0) × (called_at 4096 61440 ≡ 1) × (called_at 256 61440 ≡ 0) × (called_at 257 61440 ≡ 1)
unfolding plain_no plain_tests fits place_fits limits_hold
rings_forged = (refl, refl, refl, refl)

-- ---- what the test decides

-- "a transfer ring segment may not cross a 64 KiB address boundary": one lies behind the ring's first byte and before its end.
abbrev pub Crosses : Shape → Type 0
Crosses shape = (k : ℕ) × (shape.base < boundary * k) × (boundary * k < shape.base + trb_bytes * shape.slots)

module _ (shape : Shape) (some : 0 < shape.slots) where
  -- In other words: from the boundary at or before the base on, the ring ends within 65,536 bytes.
  pub by_room : Decides (crosses_none shape) (shape.base % boundary + trb_bytes * shape.slots ≤ boundary)
  by_room =
      reworded (λ same. omega arith) (λ room. omega arith)
      (by_eqb (shape.base / boundary) ((shape.base + trb_bytes * shape.slots - 1) / boundary))

  pub by_boundary : Decides (crosses_none shape) (Crosses shape → ⊥)
  by_boundary =
      reworded
      (λ room k. omega (arith, room, k.1, k.2))
      (λ none.
      ⊎_elim
      (λ (over : boundary < shape.base % boundary + trb_bytes * shape.slots). absurd (none (shape.base / boundary + 1, omega (arith, over), omega (arith, over))))
      (λ room. room)
      (lt_or_le boundary (shape.base % boundary + trb_bytes * shape.slots)))
      by_room

  -- A ring of at most 4,096 slots that ends exactly at a boundary crosses none.
  pub ends_at : shape.slots ≤ most_slots → (k : ℕ) → shape.base + trb_bytes * shape.slots ≡ boundary * k → crosses_none shape ≡ true
  ends_at most k end = if_so by_room (omega (arith, most, end))

-- Nor does one whose base is a multiple of 4,096, 8,192, 16,384, 32,768 or 65,536, and which has no more bytes than that: the alignment to ask an allocator
-- for.
pub aligned_none : (shape : Shape) → 0 < shape.slots → (k : ℕ) → k ≤ 4 → shape.base % (alignment * 2 ^ k) ≡ 0 → trb_bytes * shape.slots ≤ alignment * 2 ^ k
    → crosses_none shape ≡ true
aligned_none shape some zero low aligned small = if_so (by_room shape some) (omega (arith, aligned, small))
aligned_none shape some (suc zero) low aligned small = if_so (by_room shape some) (omega (arith, aligned, small))
aligned_none shape some (suc (suc zero)) low aligned small = if_so (by_room shape some) (omega (arith, aligned, small))
aligned_none shape some (suc (suc (suc zero))) low aligned small = if_so (by_room shape some) (omega (arith, aligned, small))
aligned_none shape some (suc (suc (suc (suc zero)))) low aligned small = if_so (by_room shape some) (omega (arith, aligned, small))
aligned_none shape some (suc (suc (suc (suc (suc k))))) low aligned small = absurd (omega (arith, low))

-- "With L 4,096 only a base that is a multiple of 65,536 remains."
pub by_largest : (base : ℕ) (who : Identity)
    → Decides (limits_hold (record { slots = most_slots; base = base }) who) (((base % boundary ≡ 0) × (base < 2 ^ 64)) × (ids_fit who ≡ true))
unfolding limits_hold
by_largest base who =
    reworded
    (λ k. ((omega (arith, k.0.1), omega (arith, k.0.0.1.1)), k.1))
    (λ k. (((refl, (omega (arith, k.0.0), omega (arith, k.0.0, k.0.1))), omega (arith, k.0.0)), k.1))
    (both
    (both
    (both (by_true _) (both (by_eqb (base % alignment) 0) (by_leb (base + trb_bytes * most_slots) (2 ^ 64))))
    (by_room (record { slots = most_slots; base = base }) (omega arith)))
    (by_true (ids_fit who)))

dropped : (x c i : Bool) → (x ≡ true → c ≡ true) → (x && c && i) ≡ (x && i)
dropped true c i h = rw (h refl)
dropped false c i h = refl

-- A ring of at most 256 slots, as a session's is, meets the limits exactly where it meets those of document 01 alone.
pub small_crosses_none : (shape : Shape) (who : Identity) → trb_bytes * shape.slots ≤ alignment
    → limits_hold shape who ≡ (slots_fit shape && base_fits shape && ids_fit who)
unfolding limits_hold
small_crosses_none shape who small =
    dropped (slots_fit shape && base_fits shape) (crosses_none shape) (ids_fit who)
    (λ fit.
    let k = (both (both (by_leb fewest_slots shape.slots) (by_true _)) (both (by_eqb (shape.base % alignment) 0) (by_true _))).so fit in
    aligned_none shape (omega (arith, k.0.0)) 0 (omega arith) k.1.0 small)

-- ---- who refuses a ring that crosses

pub crossing_limits : (shape : Shape) (who : Identity) → Crosses shape → limits_hold shape who ≡ false
crossing_limits shape who k = if_not (by_limits shape who) (λ l. omega (arith, l.base_whole, k.1, k.2))

-- Making answers 13.
pub crossing_made : (ring finished records packets : List ℕ) (shape : Shape) (who : Identity) → Crosses shape
    → outcome_number (make ring finished records packets shape who).0.answer ≡ (13, [])
unfolding make_tests
crossing_made ring finished records packets shape who k = making_is ring finished records packets shape who ∙ rw (crossing_limits shape who k)

either_way : (b : Bool) → ◌≡◌ {A = ℕ} (pick b 1 1) 1
either_way true = refl
either_way false = refl

-- Row 1 of every other call has the limits in it,
unfit_first : (s : State) (c : Call) → fits s.endpoint ≡ false → first (tests s c) ≡ 1
unfolding plain_tests start_tests store_tests submit_tests hand_over_tests reclaim_tests cancel_tests record_tests begin_tests end_tests fits_with
unfit_first s (configures packet burst interval) off = rw off
unfit_first s (starts request lengths) off = rw off
unfit_first s stores off = rw off
unfit_first s (submits request lengths) off =
    let size = ring_size s.endpoint.shape.slots in
    rw off (either_way (not (eqb (length s.ring) size && eqb (length s.finished) size)))
unfit_first s (hands event) off = rw off
unfit_first s (reclaims id) off = rw off
unfit_first s (cancels id) off = rw off
unfit_first s retires off = rw off
unfit_first s begins off = rw off
unfit_first s (ends worked) off = rw off
unfit_first s stops off = rw off
unfit_first s resumes off = rw off
unfit_first s points off = rw off

outside_unfit : (e : Endpoint) → limits_hold e.shape e.who ≡ false → fits e ≡ false
unfolding fits
outside_unfit e off = rw off

-- and so each answers 1.
pub crossing_called : (s : State) (c : Call) → Crosses s.endpoint.shape → (answered s c).0 ≡ 1
crossing_called s c k =
    ap (λ (x : Numbered). x.0) (answered_is s c)
    ∙ unfit_first s c (outside_unfit s.endpoint (crossing_limits s.endpoint.shape s.endpoint.who k))

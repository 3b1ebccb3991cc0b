-- What the tests of the calls decide, as facts on numbers: the limits, the places, the rows of a submission's refusals and a store number past its
-- request's stores. Assumes nothing.
use Rattle.std.specs.Prelude.{Option, Some, None}
use Prim.Native.Nat.{ℕ, zero, suc, ◌+◌, ◌-◌, ◌*◌, ◌/◌, ◌%◌, ◌^◌, ◌<◌, ◌≤◌}
use mathlib.Core.Bool.{Bool, true, false, not, ◌&&◌, ◌||◌, false≢true}
use mathlib.Core.List.{List, [], ◌∷◌}
use mathlib.Core.Logic.{◌⊎◌, inl, inr}
use mathlib.Core.Path.{◌≡◌, refl, sym, ◌∙◌}
use native.Mathlib.Omega.{arith}
use lib.Dec.{ltb, leb}
use lib.ListN.{length, get_or}
use Rattle.base.proofs.Decide.{Decides, by_leb, by_ltb, by_eqb, by_true, by_false, both, either, negated, reworded}
use Rattle.mask.specs.Occupancy.{Tells}
use Rattle.mask.specs.Occupancy as masks
use Rattle.mask.specs.declared.Occupancy.{Occupancy}
use Rattle.mask.proofs.OccupancyLaws.{lowest_tells}
use Rattle.event.specs.Event.{event_of}
use Rattle.trb.specs.declared.Words.{Words}
use Rattle.ring.specs.Ring.{slot_of}
use Rattle.sizes.specs.Sizes.{fewest_slots, most_slots, alignment, boundary, trb_bytes, most_dci, most_slot_id, record_count, records_size, packet_count, packets_size, longest, longest_control}
use Rattle.records.specs.States.{in_flight}
use Rattle.records.specs.Records.{record_at}
use Rattle.records.proofs.StateLaws.{by_state}
use Rattle.dock.specs.declared.Endpoint.{Endpoint}
use Rattle.dock.specs.declared.Identity.{Identity}
use Rattle.dock.specs.declared.Shape.{Shape}
use Rattle.dock.specs.declared.What.TheVariants.{Control, Bulk, Interrupt, Isoch}
use Rattle.dock.specs.RowOne.{fits, place_fits, first_fits, fits_with, strays, flies, next_of, is_none}
use Rattle.dock.specs.HandOver.{is_outside, slot_for, foreign}
use Rattle.dock.specs.Limits.{limits_hold}
use Rattle.dock.specs.Make.{sized}
use Rattle.dock.specs.Start.{crowded, sum_of, some_over, too_long, is_full, beyond}
use Rattle.dock.specs.Trbs.{trb_count, deferred}

-- ---- what a dock may hold

-- "Slots L: 3 to 4,096. Base: a multiple of 4,096, base + 16L at most 2^64. dci 1 to 31, slot id 1 to 255." And document 02's "floor(base / 65,536)" is the
-- same as "floor((base + 16L - 1) / 65,536)".
pub record Limits (shape : Shape) (who : Identity) : Type 0 where
  pub slots_least : fewest_slots ≤ shape.slots
  pub slots_most : shape.slots ≤ most_slots
  pub base_aligned : shape.base % alignment ≡ 0
  pub base_room : shape.base + trb_bytes * shape.slots ≤ 2 ^ 64
  pub base_whole : shape.base / boundary ≡ (shape.base + trb_bytes * shape.slots - 1) / boundary
  pub dci_least : 1 ≤ who.dci
  pub dci_most : who.dci ≤ 31
  pub slot_least : 1 ≤ who.slot
  pub slot_most : who.slot ≤ 255

pub by_limits : (shape : Shape) (who : Identity) → Decides (limits_hold shape who) (Limits shape who)
unfolding limits_hold
by_limits shape who =
    reworded
    (λ k. record {
      slots_least = k.0.0.0.0;
      slots_most = k.0.0.0.1;
      base_aligned = k.0.0.1.0;
      base_room = k.0.0.1.1;
      base_whole = k.0.1;
      dci_least = k.1.0.0.0;
      dci_most = k.1.0.0.1;
      slot_least = k.1.0.1;
      slot_most = k.1.1;
    })
    (λ k. (
      (((k.slots_least, k.slots_most), (k.base_aligned, k.base_room)), k.base_whole),
      (((k.dci_least, k.dci_most), k.slot_least), k.slot_most),
    ))
    (both
    (both
    (both
    (both (by_leb fewest_slots shape.slots) (by_leb shape.slots most_slots))
    (both (by_eqb (shape.base % alignment) 0) (by_leb (shape.base + trb_bytes * shape.slots) (2 ^ 64))))
    (by_eqb (shape.base / boundary) ((shape.base + trb_bytes * shape.slots - 1) / boundary)))
    (both (both (both (by_leb 1 who.dci) (by_leb who.dci most_dci)) (by_leb 1 who.slot)) (by_leb who.slot most_slot_id)))

-- The tables have their sizes: four words a slot, four words a place, 64 records of twelve words, 64 packets for each.
pub record Sized (slots ring finished records packets : ℕ) : Type 0 where
  pub ring_size_lem : ring ≡ 4 * slots
  pub finished_size : finished ≡ 4 * slots
  pub records_size_lem : records ≡ records_size
  pub packets_size_lem : packets ≡ packets_size

pub by_sized : (slots ring finished records packets : ℕ) → Decides (sized slots ring finished records packets) (Sized slots ring finished records packets)
unfolding sized
by_sized slots ring finished records packets =
    reworded
    (λ k. record { ring_size_lem = k.0.0.0; finished_size = k.0.0.1; records_size_lem = k.0.1; packets_size_lem = k.1 })
    (λ k. (((k.ring_size_lem, k.finished_size), k.records_size_lem), k.packets_size_lem))
    (both (both (both (by_eqb ring (4 * slots)) (by_eqb finished (4 * slots))) (by_eqb records records_size)) (by_eqb packets packets_size))

-- ---- row 1

module _ (e : Endpoint) where
  -- The producer's place is at most L-2, or L-1 within a submission of which a TRB is stored.
  abbrev pub PlaceFits : Type 0
  PlaceFits =
      (e.at.place + 1 < e.shape.slots)
      ⊎ (((e.at.place + 1 ≡ e.shape.slots) × (e.work.busy ≡ true)) × (0 < e.work.stored))

  by_place : Decides (place_fits e) PlaceFits
  unfolding place_fits
  by_place = either (by_ltb (e.at.place + 1) e.shape.slots) (both (both (by_eqb (e.at.place + 1) e.shape.slots) (by_true e.work.busy)) (by_ltb 0 e.work.stored))

  -- "L, base, dci or slot id outside the above, place above L-2 .., next id 0": none of it.
  pub record Fits : Type 0 where
    pub limits : Limits e.shape e.who
    pub place : PlaceFits
    pub next : e.account.next ≡ 0 → ⊥

  pub by_fits : Decides (fits e) Fits
  unfolding fits
  by_fits =
      reworded
      (λ k. record { limits = k.0.0; place = k.0.1; next = k.1 })
      (λ k. ((k.limits, k.place), k.next))
      (both (both (by_limits e.shape e.who) by_place) (negated (by_eqb e.account.next 0)))

held_to : (a b : Bool) → (a && not b) ≡ false → a ≡ true → b ≡ true
held_to true true s t = refl
held_to true false s t = sym s
held_to false b s t = absurd (false≢true t)

-- A test that is asked only where another holds.
pub implied : {a b : Bool} {P Q : Type 0} → Decides a P → Decides b Q → Decides (not a || b) (P → Q)
implied {a = true} p q = record { so = λ e h. q.so e; not_so = λ e k. q.not_so e (k (p.so refl)) }
implied {a = false} p q = record { so = λ e h. absurd (p.not_so refl h); not_so = λ e k. false≢true (sym e) }

-- The submission under way has a record that is held and in flight, a store that is left, and for a deferred TD a first place of at most L-2.
pub record OnCourse (e : Endpoint) (records : List ℕ) : Type 0 where
  pub number : e.work.number < record_count
  pub held : masks.held e.account.occupancy e.work.number ≡ true
  pub flying : (record_at records e.work.number).state ≡ in_flight
  pub counted : e.work.stored ≤ trb_count (record_at records e.work.number)
  pub more : is_none (next_of e (record_at records e.work.number)) ≡ false
  pub first : deferred (record_at records e.work.number) ≡ true → e.work.place + 1 < e.shape.slots

module _ (e : Endpoint) (records : List ℕ) where
  abbrev on_course_of : Bool
  on_course_of =
      ltb e.work.number record_count
      && flies records e.account.occupancy e.work.number
      && leb e.work.stored (trb_count (record_at records e.work.number))
      && not (is_none (next_of e (record_at records e.work.number)))
      && first_fits e (record_at records e.work.number)

  by_course : Decides on_course_of (OnCourse e records)
  by_course =
      let v = record_at records e.work.number in
      reworded
      (λ k. record { number = k.0.0.0.0; held = k.0.0.0.1.0; flying = k.0.0.0.1.1; counted = k.0.0.1; more = k.0.1; first = k.1 })
      (λ k. ((((k.number, (k.held, k.flying)), k.counted), k.more), k.first))
      (both
      (both
      (both
      (both (by_ltb e.work.number record_count) (both (by_true (masks.held e.account.occupancy e.work.number)) (by_state v.state in_flight)))
      (by_leb e.work.stored (trb_count v)))
      (by_false (is_none (next_of e v))))
      (implied (by_true (deferred v)) (by_ltb (e.work.place + 1) e.shape.slots)))

  -- "a store number past its request's stores", in a submission that is under way, is none of these.
  pub by_strays : Decides (strays e records) ((e.work.busy ≡ true) × (OnCourse e records → ⊥))
  unfolding strays
  by_strays = both (by_true e.work.busy) (negated by_course)

  pub on_course : strays e records ≡ false → e.work.busy ≡ true → OnCourse e records
  unfolding strays
  on_course s busy = by_course.so (held_to e.work.busy on_course_of s busy)

  -- With none under way there is nothing to stray from.
  pub at_rest : e.work.busy ≡ false → strays e records ≡ false
  unfolding strays
  at_rest idle = rw idle

  pub record FitsWith : Type 0 where
    pub endpoint : Fits e
    pub size : length records ≡ records_size
    pub course : strays e records ≡ false

  pub by_fits_with : Decides (fits_with e records) FitsWith
  unfolding fits_with
  by_fits_with =
      reworded
      (λ k. record { endpoint = k.0.0; size = k.0.1; course = k.1 })
      (λ k. ((k.endpoint, k.size), k.course))
      (both (both (by_fits e) (by_eqb (length records) records_size)) (by_false (strays e records)))

-- ---- the rows of a submission

-- Row 2: "outstanding + required above L-2".
pub by_crowded : (slots outstanding more : ℕ) → Decides (crowded slots outstanding more) (slots - 2 < outstanding + more)
unfolding crowded
by_crowded slots outstanding more = by_ltb (slots - 2) (outstanding + more)

-- Row 5, document 02: "length is above 0 and address + length - 1 exceeds the mask".
pub by_beyond : (mask address size : ℕ) → Decides (beyond mask address size) ((0 < size) × (mask < address + size - 1))
unfolding beyond
by_beyond mask address size = both (by_ltb 0 size) (by_ltb mask (address + size - 1))

-- Row 3, by the kind of the request.
module _ (type request value index size : ℕ) (lengths : List ℕ) where
  pub by_too_long_control : Decides (too_long (Control type request value index) size lengths) (longest_control < size)
  unfolding too_long
  by_too_long_control = by_ltb longest_control size

-- A number of a list is over a limit.
abbrev pub SomeOver : ℕ → List ℕ → Type 0
SomeOver most ns = (k : ℕ) × (k < length ns) × (most < get_or ns k 0)

none_over : (ns : List ℕ) → Decides (some_over ns) (SomeOver longest ns)
none_over [] = record { so = λ e. absurd (false≢true e); not_so = λ e k. omega arith }
none_over (n ∷ ns) = reworded there back (either (by_ltb longest n) (none_over ns))
  where
    there : (longest < n) ⊎ SomeOver longest ns → SomeOver longest (n ∷ ns)
    there (inl h) = (0, omega arith, h)
    there (inr k) = (suc k.0, omega arith, k.2)

    at : (k : ℕ) → k < length (n ∷ ns) → longest < get_or (n ∷ ns) k 0 → (longest < n) ⊎ SomeOver longest ns
    at zero l h = inl h
    at (suc k) l h = inr (k, omega arith, h)

    back : SomeOver longest (n ∷ ns) → (longest < n) ⊎ SomeOver longest ns
    back k = at k.0 k.1 k.2

module _ (incoming : Bool) (size : ℕ) (lengths : List ℕ) where
  pub by_too_long_bulk : Decides (too_long (Bulk incoming) size lengths) (longest < size)
  unfolding too_long
  by_too_long_bulk = by_ltb longest size

  pub by_too_long_interrupt : Decides (too_long (Interrupt incoming) size lengths) (longest < size)
  unfolding too_long
  by_too_long_interrupt = by_ltb longest size

  -- "over 64 packets", one packet over 65,536, "or sum over buffer".
  pub by_too_long_isoch : Decides (too_long (Isoch incoming) size lengths) (((packet_count < length lengths) ⊎ SomeOver longest lengths) ⊎ (size < sum_of lengths))
  unfolding too_long
  by_too_long_isoch = either (either (by_ltb packet_count (length lengths)) (none_over lengths)) (by_ltb size (sum_of lengths))

-- Row 4: "all 64 records taken".
full_or_not : (o : Occupancy) (f : Option ℕ) → Tells o f → Decides (is_full f) ((k : ℕ) → k < record_count → masks.held o k ≡ true)
full_or_not o (Some i) a = record {
  so = λ e. absurd (false≢true e);
  not_so = λ e all. false≢true (sym a.free ∙ all i a.within);
}
full_or_not o None a = record { so = λ e. a; not_so = λ e all. false≢true (sym e) }

pub by_full : (o : Occupancy) → Decides (is_full (masks.lowest o)) ((k : ℕ) → k < record_count → masks.held o k ≡ true)
by_full o = full_or_not o (masks.lowest o) (lowest_tells o)

-- ---- row 11

by_outside : (s : Option ℕ) → Decides (is_outside s) (s ≡ None)
by_outside (Some i) = record { so = λ e. absurd (false≢true e); not_so = λ e k. let z : ◌≡◌ {A = ℕ} 0 1 = cc in omega arith }
by_outside None = record { so = λ e. refl; not_so = λ e k. false≢true (sym e) }

-- "event not type 32, other slot or endpoint id, or address not one of the L slots."
pub by_foreign : (e : Endpoint) (w : Words)
    → Decides (foreign e w)
    (((((event_of w).form ≡ 32 → ⊥) ⊎ ((event_of w).slot ≡ e.who.slot → ⊥)) ⊎ ((event_of w).endpoint ≡ e.who.dci → ⊥))
    ⊎ (slot_of e.shape.base e.shape.slots (event_of w).address ≡ None))
unfolding foreign slot_for
by_foreign e w =
    either
    (either
    (either (negated (by_eqb (event_of w).form 32)) (negated (by_eqb (event_of w).slot e.who.slot)))
    (negated (by_eqb (event_of w).endpoint e.who.dci)))
    (by_outside (slot_of e.shape.base e.shape.slots (event_of w).address))

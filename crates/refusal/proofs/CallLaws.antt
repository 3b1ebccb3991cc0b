-- What the tests of the three calls leave: where no refusal holds, the tables have their sizes, the event's slot is one of the ring's, and the record
-- that is reclaimed has a place and packets that fit. Assumes nothing.
use Rattle.std.specs.Prelude.{Some, None}
use Prim.Native.Nat.{ℕ, ◌+◌, ◌-◌, ◌*◌, ◌/◌, ◌%◌, ◌≤◌, ◌<◌}
use mathlib.Core.Bool.{Bool, true, false, not, ◌&&◌, ◌||◌, and-eq-true_iff, true≢false}
use mathlib.Core.List.{List}
use mathlib.Core.Path.{◌≡◌, refl, sym, ap, subst}
use native.Mathlib.Omega.{arith}
use borrow.Author.Tests.{eqb-true, ltb-true, ltb-false, leb-false, not-false}
use lib.Dec.{eqb, leb, ltb}
use lib.ListN.{length}
use Rattle.base.specs.First.{pick}
use Rattle.base.proofs.Chosen.{quiet}
use Rattle.mask.specs.Occupancy.{held}
use Rattle.mask.specs.declared.Occupancy.{Occupancy}
use Rattle.sizes.specs.Sizes.{ring_size, record_count, records_size, packet_count, packets_size}
use Rattle.ids.specs.Free.{id_at, held_by}
use Rattle.ids.specs.Lookup.{find_in, Finds}
use Rattle.ids.proofs.LookupLaws.{find_finds}
use Rattle.ring.specs.Ring.{is_slot, slot_of}
use Rattle.event.specs.Event.{event_of}
use Rattle.event.specs.declared.Event.{Event}
use Rattle.trb.specs.declared.Words.{Words}
use Rattle.records.specs.Kinds.{kind_is, isoch}
use Rattle.records.proofs.KindLaws.{eq_kind}
use Rattle.records.specs.States.{in_flight}
use Rattle.records.proofs.StateLaws.{eq_state}
use Rattle.records.specs.Records.{record_at}
use Rattle.records.specs.declared.Record.{Record}
use Rattle.dock.specs.RowOne.{fits, fits_with}
use Rattle.dock.specs.HandOver.{is_outside, slot_number, slot_for, foreign, hand_over_tests, hand_over_no}
use Rattle.dock.specs.Cancel.{cancel_tests, cancel_no}
use Rattle.dock.specs.Reclaim.{bad_record, reclaim_tests, reclaim_no}
use Rattle.dock.specs.declared.Endpoint.{Endpoint}
use Rattle.checks.proofs.Laws.{fit, fit_with}
use Rattle.checks.specs.Shown.{Shown}
use Rattle.refusal.specs.Misplaced.{misplaced}

-- A record that is found is one of the table's.
pub found_within : (records : List ℕ) (occupancy : Occupancy) (id r : ℕ) → Some r ≡ find_in records occupancy id → r < record_count
found_within records occupancy id r e =
    (subst (Finds record_count (held_by (held occupancy) (id_at records) id)) (sym e) (find_finds record_count (held occupancy) (id_at records) id)).within

or_false : (a b : Bool) → (a || b) ≡ false → (a ≡ false) × (b ≡ false)
or_false true b e = absurd (true≢false e)
or_false false b e = (refl, e)

-- ---- an event

module _ (base slots address : ℕ) where
  below_by : (b : Bool) → is_slot base slots address ≡ b → is_outside (pick b (Some ((address - base) / 16)) None) ≡ false
      → slot_number (pick b (Some ((address - base) / 16)) None) < slots
  unfolding is_slot
  below_by true e inside = ltb-true _ _ ((and-eq-true_iff (leb base address && eqb ((address - base) % 16) 0) (ltb ((address - base) / 16) slots)).0 e).1
  below_by false e inside = absurd (true≢false inside)

  slot_below : is_outside (slot_of base slots address) ≡ false → slot_number (slot_of base slots address) < slots
  unfolding slot_of
  slot_below inside = below_by (is_slot base slots address) refl inside

-- An event of another endpoint, by what its words say.
abbrev pub foreign_event : Endpoint → Words → Event → Bool
foreign_event e w v =
    not (eqb v.form 32)
    || not (eqb v.slot e.who.slot)
    || not (eqb v.endpoint e.who.dci)
    || is_outside (slot_for e w)

pub foreign_by : (e : Endpoint) (w : Words) (v : Event) → v ≡ event_of w → foreign_event e w v ≡ foreign e w
unfolding foreign
foreign_by e w v q = ap (foreign_event e w) q

-- An event that is not refused has a place in the finished table.
pub handed : (e : Endpoint) (finished : ℕ) (w : Words) → hand_over_no e finished w ≡ 0
    → (finished ≡ 4 * e.shape.slots) × (slot_number (slot_for e w) < e.shape.slots)
unfolding hand_over_no hand_over_tests foreign slot_for
handed e finished w none =
    let ts = hand_over_tests e finished w in
    let ready : (fits e && eqb finished (ring_size e.shape.slots)) ≡ true = not-false _ (quiet ts 0 refl none (omega arith)) in
    let mine = not (eqb (event_of w).form 32) || not (eqb (event_of w).slot e.who.slot) || not (eqb (event_of w).endpoint e.who.dci) in
    let inside : is_outside (slot_for e w) ≡ false = (or_false mine (is_outside (slot_for e w)) (quiet ts 2 refl none (omega arith))).1 in (
      eqb-true _ _ ((and-eq-true_iff (fits e) (eqb finished (ring_size e.shape.slots))).0 ready).1,
      slot_below e.shape.base e.shape.slots (event_of w).address inside,
    )

-- ---- a cancel

pub cancel_sized : (e : Endpoint) (records : List ℕ) (id : ℕ) → cancel_no e records id ≡ 0 → length records ≡ records_size
unfolding cancel_no cancel_tests
cancel_sized e records id none =
    (fit_with e records (not-false _ (quiet (cancel_tests e records id) 0 refl none (omega arith)))).size

-- ---- a reclaim

-- The test of the sizes, as facts.
pub fitted : (e : Endpoint) (finished : ℕ) (records : List ℕ) (packets : ℕ)
    → (fits_with e records && eqb finished (ring_size e.shape.slots) && eqb packets packets_size) ≡ true
    → (Shown e.shape.slots finished 0 0) × (length records ≡ records_size) × (packets ≡ packets_size)
fitted e finished records packets t =
    let last = (and-eq-true_iff (fits_with e records && eqb finished (ring_size e.shape.slots)) (eqb packets packets_size)).0 t in
    let two = (and-eq-true_iff (fits_with e records) (eqb finished (ring_size e.shape.slots))).0 last.0 in
    let w = fit_with e records two.0 in
    let l = (fit e w.fit).limits in
    let least = l.slots_least in (
      record { least = least; most = l.slots_most; table = eqb-true _ _ two.1; place = omega arith; held = omega arith },
      w.size,
      eqb-true _ _ last.1,
    )

-- Where a reclaim is not refused.
pub reclaimable : (e : Endpoint) (finished : ℕ) (records : List ℕ) (packets id : ℕ) → reclaim_no e finished records packets id ≡ 0
    → (Shown e.shape.slots finished 0 0)
    × (length records ≡ records_size)
    × (packets ≡ packets_size)
    × (bad_record e records (find_in records e.account.occupancy id) ≡ false)
unfolding reclaim_no reclaim_tests
reclaimable e finished records packets id none =
    let ts = reclaim_tests e finished records packets id in
    let f = fitted e finished records packets (not-false _ (quiet ts 0 refl none (omega arith))) in (f.0, f.1, f.2, quiet ts 1 refl none (omega arith))

-- The test of a record that is found.
pub bad_found : (e : Endpoint) (records : List ℕ) (r : ℕ) → misplaced e.shape.slots (record_at records r) ≡ bad_record e records (Some r)
unfolding misplaced
bad_found e records r = refl

-- A record in flight that is not misplaced: its place is one of the slots 0 to L-2, and of packets it has 64 at most.
pub well_placed : (slots : ℕ) (v : Record) → misplaced slots v ≡ false → v.state ≡ in_flight
    → (v.place + 1 < slots) × (v.kind ≡ isoch → v.count ≤ packet_count)
unfolding misplaced
well_placed slots v t s =
    let flies = simp (eq_state v.state in_flight s) at t in
    let parts = or_false (leb slots (v.place + 1)) (kind_is v.kind isoch && ltb packet_count v.count) flies in (
      leb-false _ _ parts.0,
      λ k. ltb-false packet_count v.count (simp (eq_kind v.kind isoch k) at parts.1),
    )

-- What the tests on a request's record decide, as facts on numbers: an id that is not in flight (6), a record that a reclaim cannot use (1), requests that
-- keep a reset waiting (2), packets that differ (9), the codes; and row 1 of the calls that are lent tables, by their sizes. Assumes nothing.
use Rattle.std.specs.Prelude.{Option, Some, None}
use Prim.Native.Nat.{ℕ, ◌+◌, ◌<◌, ◌≤◌}
use mathlib.Core.Bool.{Bool, true, false, not, ◌&&◌}
use mathlib.Core.List.{List}
use mathlib.Core.Logic.{◌⊎◌}
use mathlib.Core.Path.{◌≡◌, refl, sym, subst, ◌∙◌}
use borrow.Author.Tests.{not-false}
use lib.Dec.{eqb}
use Rattle.base.proofs.Decide.{Decides, if_so, if_not, by_leb, by_ltb, by_eqb, by_true, both, either, negated, reworded}
use Rattle.mask.specs.Occupancy.{held}
use Rattle.mask.specs.declared.Occupancy.{Occupancy}
use Rattle.sizes.specs.Sizes.{ring_size, record_count, packet_count, packets_size}
use Rattle.ids.specs.Free.{any, held_by, id_at}
use Rattle.ids.specs.Lookup.{Lowest, Finds, find_in}
use Rattle.ids.proofs.AnyLaws.{never_both, any_one, any_found, by_held}
use Rattle.ids.proofs.LookupLaws.{find_finds, find_unique, find_computed}
use Rattle.records.specs.Kinds.{isoch}
use Rattle.records.proofs.KindLaws.{by_kind}
use Rattle.records.specs.States.{state_is, in_flight}
use Rattle.records.specs.Records.{record_at}
use Rattle.records.proofs.StateLaws.{state_true, by_state}
use Rattle.records.specs.declared.Record.{Record}
use Rattle.records.proofs.RecordLaws.{id_is}
use Rattle.dock.specs.declared.Endpoint.{Endpoint}
use Rattle.dock.specs.RowOne.{fits, fits_with, flies}
use Rattle.dock.specs.Cancel.{not_flying}
use Rattle.dock.specs.Reclaim.{mismatched, bad_record}
use Rattle.dock.specs.Reset.{occupied}
use Rattle.dock.specs.Worth.{accepted, counts}
use Rattle.dock.proofs.RefusalTestLaws.{Fits, by_fits, FitsWith, by_fits_with}

-- ---- the record that an id names

-- Record r is held and has the id, and no lower record is and has: "Of two records with one id the lower counts".
pub record Named (records : List ℕ) (occupancy : Occupancy) (id r : ℕ) : Type 0 where
  pub within : r < record_count
  pub holds : held occupancy r ≡ true
  pub has : (record_at records r).id ≡ id
  pub lower : (k : ℕ) → k < r → held occupancy k ≡ true → (record_at records k).id ≡ id → ⊥

module _ (records : List ℕ) (occupancy : Occupancy) (id : ℕ) where
  abbrev named : ℕ → Bool
  named = held_by (held occupancy) (id_at records) id

  by_named : (k : ℕ) → Decides (named k) ((held occupancy k ≡ true) × ((record_at records k).id ≡ id))
  by_named k =
      reworded (λ h. (h.0, id_is records k ∙ h.1)) (λ h. (h.0, sym (id_is records k) ∙ h.1)) (by_held (held occupancy) (id_at records) id k)

  to_named : (r : ℕ) → Lowest record_count named r → Named records occupancy id r
  to_named r l =
      let is = (by_named r).so l.here in
      record { within = l.within; holds = is.0; has = is.1; lower = λ k less h i. (by_named k).not_so (l.lower k less) (h, i) }

  from_named : (r : ℕ) → Named records occupancy id r → Lowest record_count named r
  from_named r n = record {
    within = n.within;
    here = if_so (by_named r) (n.holds, n.has);
    lower = λ k less. if_not (by_named k) (λ h. n.lower k less h.0 h.1);
  }

  pub named_found : (r : ℕ) → Named records occupancy id r → find_in records occupancy id ≡ Some r
  named_found r n = sym (find_computed record_count (held occupancy) (id_at records) id (Some r) (from_named r n))

  none_by : (f : Option ℕ) → Finds record_count named f → ((r : ℕ) → Named records occupancy id r → ⊥) → f ≡ None
  none_by None f n = refl
  none_by (Some r) f n = absurd (n r (to_named r f))

  pub unnamed_none : ((r : ℕ) → Named records occupancy id r → ⊥) → find_in records occupancy id ≡ None
  unnamed_none = none_by (find_in records occupancy id) (find_finds record_count (held occupancy) (id_at records) id)

  -- Some fact holds of the record that the id names: of the one that is found, and of none where none is.
  abbrev pub OfNamed : (ℕ → Type 0) → Type 0
  OfNamed P = (r : ℕ) × Named records occupancy id r × P r

  by_found : {P : ℕ → Type 0} (test : Option ℕ → Bool) → test None ≡ false → ((r : ℕ) → Decides (test (Some r)) (P r))
      → (f : Option ℕ) → Finds record_count named f → Decides (test f) (OfNamed P)
  by_found test off on None f = record {
    so = λ t. absurd (never_both t off);
    not_so = λ t k. never_both (from_named k.0 k.1).here (f k.0 k.1.within);
  }
  by_found {P} test off on (Some r) f =
      reworded
      (λ p. (r, to_named r f, p))
      (λ k. let same : Some k.0 ≡ Some r = find_unique record_count named (Some k.0) (Some r) (from_named k.0 k.1) f in
      let is : k.0 ≡ r = cc in
      subst P is k.2)
      (on r)

  by_lookup : {P : ℕ → Type 0} (test : Option ℕ → Bool) → test None ≡ false → ((r : ℕ) → Decides (test (Some r)) (P r))
      → Decides (test (find_in records occupancy id)) (OfNamed P)
  by_lookup test off on = by_found test off on (find_in records occupancy id) (find_finds record_count (held occupancy) (id_at records) id)

  abbrev is_flying : Option ℕ → Bool
  is_flying None = false
  is_flying (Some r) = state_is (record_at records r).state in_flight

  by_flying : (f : Option ℕ) → Finds record_count named f → Decides (not_flying records f) (OfNamed (λ r. (record_at records r).state ≡ in_flight) → ⊥)
  by_flying None f = negated (by_found is_flying refl (λ r. by_state (record_at records r).state in_flight) None f)
  by_flying (Some r) f = negated (by_found is_flying refl (λ r. by_state (record_at records r).state in_flight) (Some r) f)

  -- Row 6: "cancel of an id not in flight". The record that the id names, if there is one, is not in flight.
  pub by_not_flying : Decides (not_flying records (find_in records occupancy id)) (OfNamed (λ r. (record_at records r).state ≡ in_flight) → ⊥)
  by_not_flying = by_flying (find_in records occupancy id) (find_finds record_count (held occupancy) (id_at records) id)

  -- A cancel that row 6 lets pass has such a record.
  flying_by : (f : Option ℕ) → Finds record_count named f → not_flying records f ≡ false → OfNamed (λ r. (record_at records r).state ≡ in_flight)
  flying_by None f t = absurd (never_both refl t)
  flying_by (Some r) f t = (r, to_named r f, state_true (record_at records r).state in_flight (not-false _ t))

  pub flying_named : not_flying records (find_in records occupancy id) ≡ false → OfNamed (λ r. (record_at records r).state ≡ in_flight)
  flying_named = flying_by (find_in records occupancy id) (find_finds record_count (held occupancy) (id_at records) id)

-- Row 1: "for reclaim, its record in flight with a place above L-2 or over 64 packets".
pub by_bad_record : (e : Endpoint) (records : List ℕ) (id : ℕ)
    → Decides (bad_record e records (find_in records e.account.occupancy id))
    (OfNamed records e.account.occupancy id
    (λ r. ((record_at records r).state ≡ in_flight)
    × ((e.shape.slots ≤ (record_at records r).place + 1) ⊎ (((record_at records r).kind ≡ isoch) × (packet_count < (record_at records r).count)))))
by_bad_record e records id =
    by_lookup records e.account.occupancy id (bad_record e records) refl
    (λ r.
    let v = record_at records r in
    both (by_state v.state in_flight) (either (by_leb e.shape.slots (v.place + 1)) (both (by_kind v.kind isoch) (by_ltb packet_count v.count))))

-- Row 2: "for reset, requests in flight or outstanding not 0".
by_any : (n : ℕ) (test : ℕ → Bool) (P : ℕ → Type 0) → ((r : ℕ) → Decides (test r) (P r)) → Decides (any n test) ((r : ℕ) × (r < n) × P r)
by_any n test P d = record {
  so = λ t. let f = any_found n test t in (f.0, f.1, (d f.0).so f.2);
  not_so = λ t k. never_both (any_one n k.0 test k.1 (if_so (d k.0) k.2)) t;
}

pub by_occupied : (e : Endpoint) (records : List ℕ)
    → Decides (occupied e records)
    (((r : ℕ) × (r < record_count) × ((held e.account.occupancy r ≡ true) × ((record_at records r).state ≡ in_flight)))
    ⊎ (e.account.outstanding ≡ 0 → ⊥))
unfolding occupied
by_occupied e records =
    either
    (by_any record_count (flies records e.account.occupancy) _
    (λ r. both (by_true (held e.account.occupancy r)) (by_state (record_at records r).state in_flight)))
    (negated (by_eqb e.account.outstanding 0))

-- "then a reset under way (2)", of an endpoint that is halted.
pub by_resetting : (e : Endpoint) → Decides (e.flags.halted && e.flags.reset) ((e.flags.halted ≡ true) × (e.flags.reset ≡ true))
by_resetting e = both (by_true e.flags.halted) (by_true e.flags.reset)

-- ---- a completion

-- Row 9: "completion of an ISO request whose packet count differs from the lengths given".
pub by_mismatched : (v : Record) → Decides (mismatched v) ((v.kind ≡ isoch) × (v.count ≡ v.given → ⊥))
unfolding mismatched
by_mismatched v = both (by_kind v.kind isoch) (negated (by_eqb v.count v.given))

-- "Accepted codes for control, bulk, interrupt: 1 and 13".
pub by_accepted : (code : ℕ) → Decides (accepted code) ((code ≡ 1) ⊎ (code ≡ 13))
unfolding accepted
by_accepted code = either (by_eqb code 1) (by_eqb code 13)

-- "ISO, codes 1, 3, 4, 13, 23, 26, 31".
pub by_counts : (code : ℕ)
    → Decides (counts code) (((((((code ≡ 1) ⊎ (code ≡ 3)) ⊎ (code ≡ 4)) ⊎ (code ≡ 13)) ⊎ (code ≡ 23)) ⊎ (code ≡ 26)) ⊎ (code ≡ 31))
unfolding counts
by_counts code =
    either
    (either (either (either (either (either (by_eqb code 1) (by_eqb code 3)) (by_eqb code 4)) (by_eqb code 13)) (by_eqb code 23)) (by_eqb code 26))
    (by_eqb code 31)

-- ---- row 1 of the calls that are lent tables: the endpoint, the records and the sizes

module _ (e : Endpoint) (records : List ℕ) where
  abbrev size : ℕ
  size = ring_size e.shape.slots

  pub by_start_misfit : (packets : ℕ) → Decides (not (fits_with e records && eqb packets packets_size)) (FitsWith e records × (packets ≡ packets_size) → ⊥)
  by_start_misfit packets = negated (both (by_fits_with e records) (by_eqb packets packets_size))

  pub by_store_misfit : (ring finished packets : ℕ)
      → Decides (not (fits_with e records && eqb ring size && eqb finished size && eqb packets packets_size))
      (((FitsWith e records × (ring ≡ size)) × (finished ≡ size)) × (packets ≡ packets_size) → ⊥)
  by_store_misfit ring finished packets =
      negated (both (both (both (by_fits_with e records) (by_eqb ring size)) (by_eqb finished size)) (by_eqb packets packets_size))

  pub by_reclaim_misfit : (finished packets : ℕ)
      → Decides (not (fits_with e records && eqb finished size && eqb packets packets_size))
      ((FitsWith e records × (finished ≡ size)) × (packets ≡ packets_size) → ⊥)
  by_reclaim_misfit finished packets = negated (both (both (by_fits_with e records) (by_eqb finished size)) (by_eqb packets packets_size))

  pub by_records_misfit : Decides (not (fits_with e records)) (FitsWith e records → ⊥)
  by_records_misfit = negated (by_fits_with e records)

-- The whole submission's own, before its start's.
pub by_submit_misfit : (e : Endpoint) (ring finished : ℕ)
    → let size = ring_size e.shape.slots in Decides (not (eqb ring size && eqb finished size)) ((ring ≡ size) × (finished ≡ size) → ⊥)
by_submit_misfit e ring finished = let size = ring_size e.shape.slots in negated (both (by_eqb ring size) (by_eqb finished size))

pub by_hand_over_misfit : (e : Endpoint) (finished : ℕ)
    → Decides (not (fits e && eqb finished (ring_size e.shape.slots))) (Fits e × (finished ≡ ring_size e.shape.slots) → ⊥)
by_hand_over_misfit e finished = negated (both (by_fits e) (by_eqb finished (ring_size e.shape.slots)))

-- Of a call that is lent no table.
pub by_plain_misfit : (e : Endpoint) → Decides (not (fits e)) (Fits e → ⊥)
by_plain_misfit e = negated (by_fits e)

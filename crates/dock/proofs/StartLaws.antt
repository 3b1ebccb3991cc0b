-- A start that is admitted takes an id that no held record has, the lowest record that is free, and as many TRBs as the request needs, at most L-2 in
-- all; it writes that record, changes no other, and leaves position, shape, identity, settings and flags. Assumes nothing.
use Rattle.std.specs.Prelude.{Option, Some, None}
use Prim.Native.Nat.{ℕ, ◌+◌, ◌-◌, ◌*◌, ◌^◌, ◌<◌, ◌≤◌}
use mathlib.Core.Bool.{true, false, ◌&&◌, false≢true}
use mathlib.Core.List.{List}
use mathlib.Core.Logic.{⊎_elim}
use mathlib.Core.Path.{◌≡◌, refl, sym, ◌∙◌}
use native.Mathlib.Omega.{arith}
use borrow.Author.Tests.{not-false}
use lib.Dec.{eqb}
use lib.ListN.{length}
use Rattle.base.proofs.Compare.{lt_or_le}
use Rattle.base.proofs.Decide.{Decides, by_eqb, both}
use Rattle.base.proofs.Lent.{put_length}
use Rattle.mask.specs.Occupancy.{held, lowest, HeldIs, LowestFree, Tells}
use Rattle.mask.specs.declared.Occupancy.{Occupancy}
use Rattle.mask.proofs.OccupancyLaws.{taken_is, lowest_tells}
use Rattle.sizes.specs.Sizes.{record_count, record_words, packets_size}
use Rattle.ids.specs.Free.{is_held, id_at}
use Rattle.ids.specs.Order.{after_id}
use Rattle.ids.proofs.SearchLaws.{answer_free, answer_other}
use Rattle.records.specs.Records.{record_at, record_list}
use Rattle.records.proofs.RecordLaws.{id_is, record_put, record_other}
use Rattle.dock.specs.declared.Endpoint.{Endpoint}
use Rattle.dock.specs.declared.Request.{Request}
use Rattle.dock.specs.RowOne.{fits_with}
use Rattle.dock.specs.Requests.{required, record_for}
use Rattle.dock.specs.Start.{start_tests, start_no, crowded, too_long, is_full, beyond, number_from, record_taken, id_taken, charged, begun, started_endpoint, started_records}
use Rattle.dock.proofs.RefusalLaws.{start_exact}
use Rattle.dock.proofs.RefusalTestLaws.{FitsWith, by_fits_with, by_crowded}

-- ---- what an admitted start may count on

lowest_of : (o : Occupancy) (f : Option ℕ) → Tells o f → is_full f ≡ false → LowestFree o (number_from f)
lowest_of o (Some i) a free = a
lowest_of o None a free = absurd (false≢true (sym free))

module _ (e : Endpoint) (records packets : List ℕ) (request : Request) (lengths : List ℕ) where
  pub record Starting : Type 0 where
    pub fits : FitsWith e records
    pub packets_size_lem : length packets ≡ packets_size
    pub resting : e.work.busy ≡ false
    pub steady : e.flags.reset ≡ false
    pub room : e.account.outstanding + required request (length lengths) ≤ e.shape.slots - 2
    pub short : too_long request.what request.length lengths ≡ false
    pub free : LowestFree e.account.occupancy (record_taken e)
    pub reach : beyond e.who.mask request.address request.length ≡ false

  by_tables : Decides (fits_with e records && eqb (length packets) packets_size) (FitsWith e records × (length packets ≡ packets_size))
  by_tables = both (by_fits_with e records) (by_eqb (length packets) packets_size)

  pub start_admitted : start_no e records (length packets) request lengths ≡ 0 → Starting
  unfolding start_tests record_taken
  start_admitted passed =
      let tests = (start_exact e records packets request lengths).passed passed in
      let k = by_tables.so (not-false _ (tests 0 (omega arith))) in
      let more = required request (length lengths) in
      let crowd : crowded e.shape.slots e.account.outstanding more ≡ false = tests 3 (omega arith) in
      record {
        fits = k.0;
        packets_size_lem = k.1;
        resting = tests 1 (omega arith);
        steady = tests 2 (omega arith);
        room =
            ⊎_elim
            (λ (h : e.shape.slots - 2 < e.account.outstanding + more). absurd ((by_crowded e.shape.slots e.account.outstanding more).not_so crowd h))
            (λ (h : e.account.outstanding + more ≤ e.shape.slots - 2). h)
            (lt_or_le (e.shape.slots - 2) (e.account.outstanding + more));
        short = tests 4 (omega arith);
        free = lowest_of e.account.occupancy (lowest e.account.occupancy) (lowest_tells e.account.occupancy) (tests 5 (omega arith));
        reach = tests 6 (omega arith);
      }

-- ---- what is taken

module _ (e : Endpoint) (records packets : List ℕ) (request : Request) (lengths : List ℕ) (passed : start_no e records (length packets) request lengths ≡ 0) where
  starting : Starting e records packets request lengths
  starting = start_admitted e records packets request lengths passed

  next_above_lem : 0 < e.account.next
  next_above_lem = let n = starting.fits.endpoint.next in omega arith

  -- The id is one that no held record has.
  pub id_free : e.account.next < 2 ^ 64 → is_held record_count (held e.account.occupancy) (id_at records) (id_taken e records) ≡ false
  unfolding id_taken
  id_free small = answer_free record_count (held e.account.occupancy) (id_at records) e.account.next (omega arith) next_above_lem small

  pub id_other : e.account.next < 2 ^ 64 → (r : ℕ) → r < record_count → held e.account.occupancy r ≡ true → id_taken e records ≡ (record_at records r).id → ⊥
  unfolding id_taken
  id_other small r l mine q =
      answer_other record_count (held e.account.occupancy) (id_at records) e.account.next (omega arith) next_above_lem small r l mine (q ∙ id_is records r)

  -- The record is the lowest that is free.
  pub record_below : record_taken e < record_count
  record_below = starting.free.within

  pub record_free : held e.account.occupancy (record_taken e) ≡ false
  record_free = starting.free.free

  pub record_lowest : (r : ℕ) → r < record_taken e → held e.account.occupancy r ≡ true
  record_lowest = starting.free.lower

  -- Afterwards it is held, and every other record as it was.
  pub record_taken_lem : HeldIs e.account.occupancy (record_taken e) true (started_endpoint e records request lengths).account.occupancy
  unfolding started_endpoint charged
  record_taken_lem = taken_is e.account.occupancy (record_taken e) record_below

  -- The TRBs outstanding: as many more as the request needs, and at most L-2.
  pub outstanding_after : (started_endpoint e records request lengths).account.outstanding ≡ e.account.outstanding + required request (length lengths)
  unfolding started_endpoint charged
  outstanding_after = refl

  pub outstanding_most : (started_endpoint e records request lengths).account.outstanding ≤ e.shape.slots - 2
  outstanding_most = omega (arith, outstanding_after, starting.room)

-- The next search starts after the id.
module _ (e : Endpoint) (records : List ℕ) (request : Request) (lengths : List ℕ) where
  pub next_after : (started_endpoint e records request lengths).account.next ≡ after_id (id_taken e records)
  unfolding started_endpoint charged
  next_after = refl

  -- The account is charged, whatever the ring has in it.
  pub account_charged : (started_endpoint e records request lengths).account
      ≡ charged e.account (id_taken e records) (record_taken e) (required request (length lengths))
  unfolding started_endpoint
  account_charged = refl

  -- A submission is under way from the position on, with none of its TRBs stored.
  pub work_begun : (started_endpoint e records request lengths).work ≡ begun e (record_taken e) request
  unfolding started_endpoint
  work_begun = refl

  -- Position, shape, identity, periodic settings and flags are as they were.
  pub start_keeps : ((started_endpoint e records request lengths).at ≡ e.at)
      × ((started_endpoint e records request lengths).shape ≡ e.shape)
      × ((started_endpoint e records request lengths).who ≡ e.who)
      × ((started_endpoint e records request lengths).periodic ≡ e.periodic)
      × ((started_endpoint e records request lengths).flags ≡ e.flags)
  unfolding started_endpoint
  start_keeps = (refl, refl, refl, refl, refl)

-- ---- the records

module _ (e : Endpoint) (records packets : List ℕ) (request : Request) (lengths : List ℕ) (passed : start_no e records (length packets) request lengths ≡ 0) where
  record_room : record_words * record_taken e + record_words ≤ length records
  record_room =
      let size = (starting e records packets request lengths passed).fits.size in
      omega (arith, record_below e records packets request lengths passed)

  -- The record taken reads as the request's,
  pub record_written : record_at (started_records e records request lengths) (record_taken e) ≡ record_for request (length lengths) (id_taken e records) e.at.place
  unfolding started_records
  record_written = record_put records (record_taken e) (record_for request (length lengths) (id_taken e records) e.at.place) record_room

  -- every other as it was,
  pub records_kept : (r : ℕ) → (r ≡ record_taken e → ⊥) → record_at (started_records e records request lengths) r ≡ record_at records r
  unfolding started_records
  records_kept r differs = record_other records (record_taken e) (record_for request (length lengths) (id_taken e records) e.at.place) record_room r differs

  -- and the table keeps its length.
  pub records_length : length (started_records e records request lengths) ≡ length records
  unfolding started_records
  records_length = put_length record_words records (record_taken e) (record_list (record_for request (length lengths) (id_taken e records) e.at.place)) refl record_room

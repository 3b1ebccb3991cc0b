-- The order of every call's refusals, row by row, as document 01's "When the dock says no" has it: the first row that holds is answered, and 0 where none
-- does. Assumes nothing.
use Prim.Native.Nat.{ℕ}
use mathlib.Core.Bool.{Bool, true, false, not, ◌&&◌}
use mathlib.Core.List.{List}
use mathlib.Core.Path.{◌≡◌, refl, ◌∙◌}
use lib.Dec.{eqb}
use lib.ListN.{length}
use Rattle.base.specs.First.{pick}
use Rattle.trb.specs.declared.Words.{Words}
use Rattle.mask.specs.Occupancy.{lowest}
use Rattle.ids.specs.Lookup.{find_in}
use Rattle.dock.specs.declared.Endpoint.{Endpoint}
use Rattle.dock.specs.declared.Identity.{Identity}
use Rattle.dock.specs.declared.Request.{Request}
use Rattle.dock.specs.declared.Shape.{Shape}
use Rattle.dock.specs.Cancel.{cancel_tests, cancel_no, not_flying}
use Rattle.dock.specs.Configure.{plain_tests, plain_no}
use Rattle.dock.specs.RowOne.{fits_with, fits}
use Rattle.dock.specs.HandOver.{hand_over_tests, hand_over_no, foreign}
use Rattle.sizes.specs.Sizes.{ring_size, packets_size}
use Rattle.dock.specs.Limits.{limits_hold}
use Rattle.dock.specs.Make.{make_tests, make_no, sized}
use Rattle.dock.specs.Reclaim.{reclaim_tests, reclaim_no, bad_record}
use Rattle.dock.specs.Requests.{required}
use Rattle.dock.specs.Reset.{begin_tests, begin_no, end_tests, end_no, occupied}
use Rattle.dock.specs.Retire.{record_tests, record_no}
use Rattle.dock.specs.Start.{crowded, too_long, is_full, beyond, start_tests, start_no}
use Rattle.dock.specs.NextStore.{store_tests, store_no}
use Rattle.dock.specs.Submit.{submit_tests, submit_no}

-- "Making knows only 13, then 1."
pub make_rows : (ring finished records packets : ℕ) (shape : Shape) (who : Identity)
    → make_no ring finished records packets shape who
    ≡ pick (not (limits_hold shape who)) 13 (pick (not (sized shape.slots ring finished records packets)) 1 0)
unfolding make_tests make_no
make_rows ring finished records packets shape who = refl

module _ (e : Endpoint) where
  -- Configuring, stop, resume, the pointer: 1, then 12.
  pub plain_rows : plain_no e ≡ pick (not (fits e)) 1 (pick e.work.busy 12 0)
  unfolding plain_tests plain_no
  plain_rows = refl

  -- The end of a reset: 1, 12, then 10 with none under way.
  pub end_rows : end_no e ≡ pick (not (fits e)) 1 (pick e.work.busy 12 (pick (not e.flags.reset) 10 0))
  unfolding end_tests end_no
  end_rows = refl

  -- A store: 1, then 10 with none under way.
  pub store_rows : (ring finished : ℕ) (records : List ℕ) (packets : ℕ)
      → store_no e ring finished records packets
      ≡ pick
      (not (fits_with e records && eqb ring (ring_size e.shape.slots) && eqb finished (ring_size e.shape.slots) && eqb packets packets_size))
      1 (pick (not e.work.busy) 10 0)
  unfolding store_tests store_no
  store_rows ring finished records packets = refl

  -- An event handed over: 1, 12, then 11.
  pub hand_over_rows : (finished : ℕ) (w : Words)
      → hand_over_no e finished w
      ≡ pick (not (fits e && eqb finished (ring_size e.shape.slots))) 1 (pick e.work.busy 12 (pick (foreign e w) 11 0))
  unfolding hand_over_tests hand_over_no
  hand_over_rows finished w = refl

  module _ (records : List ℕ) where
    -- Retiring: 1, then 12.
    pub retire_rows : record_no e records ≡ pick (not (fits_with e records)) 1 (pick e.work.busy 12 0)
    unfolding record_tests record_no
    retire_rows = refl

    -- A cancel: 1, 12, then 6.
    pub cancel_rows : (id : ℕ)
        → cancel_no e records id
        ≡ pick (not (fits_with e records)) 1
        (pick e.work.busy 12 (pick (not_flying records (find_in records e.account.occupancy id)) 6 0))
    unfolding cancel_tests cancel_no
    cancel_rows id = refl

    -- The begin of a reset: 1, 12, 2 with requests, and of a halted endpoint 2 with a reset under way.
    pub begin_rows : begin_no e records
        ≡ pick (not (fits_with e records)) 1
        (pick e.work.busy 12 (pick (occupied e records) 2 (pick (e.flags.halted && e.flags.reset) 2 0)))
    unfolding begin_tests begin_no
    begin_rows = refl

    -- A reclaim: 1 by the sizes, 1 by its record, then 12.
    pub reclaim_rows : (finished packets id : ℕ)
        → reclaim_no e finished records packets id
        ≡ pick (not (fits_with e records && eqb finished (ring_size e.shape.slots) && eqb packets packets_size)) 1
        (pick (bad_record e records (find_in records e.account.occupancy id)) 1 (pick e.work.busy 12 0))
    unfolding reclaim_tests reclaim_no
    reclaim_rows finished packets id = refl

-- The rows of a submission, "1, 12, then for a submission 2 (reset), 2 (capacity), 3, 4, 5": each is answered where it is the first that holds.
module _ (e : Endpoint) (records packets : List ℕ) (request : Request) (lengths : List ℕ) where
  abbrev fit : Bool
  fit = fits_with e records && eqb (length packets) packets_size

  abbrev crowd : Bool
  crowd = crowded e.shape.slots e.account.outstanding (required request (length lengths))

  abbrev full : Bool
  full = is_full (lowest e.account.occupancy)

  abbrev out : Bool
  out = beyond e.who.mask request.address request.length

  pub start_rows : start_no e records (length packets) request lengths
      ≡ pick (not fit) 1 (pick e.work.busy 12 (pick e.flags.reset 2 (pick crowd 2 (pick (too_long request.what request.length lengths) 3 (pick full 4 (pick out 5 0))))))
  unfolding start_tests start_no
  start_rows = refl

  -- The whole submission: 1 by the sizes of the ring and the finished table, then the start's.
  pub submit_rows : (ring finished : ℕ)
      → submit_no e ring finished records (length packets) request lengths
      ≡ pick (not (eqb ring (ring_size e.shape.slots) && eqb finished (ring_size e.shape.slots))) 1 (start_no e records (length packets) request lengths)
  unfolding submit_tests submit_no start_no
  submit_rows ring finished = refl

  pub start_misfit : fit ≡ false → start_no e records (length packets) request lengths ≡ 1
  start_misfit a = start_rows ∙ rw a

  module _ (a : fit ≡ true) where
    pub start_busy : e.work.busy ≡ true → start_no e records (length packets) request lengths ≡ 12
    start_busy b = start_rows ∙ rw (a, b)

    module _ (b : e.work.busy ≡ false) where
      pub start_resetting : e.flags.reset ≡ true → start_no e records (length packets) request lengths ≡ 2
      start_resetting c = start_rows ∙ rw (a, b, c)

      module _ (c : e.flags.reset ≡ false) where
        pub start_crowded : crowd ≡ true → start_no e records (length packets) request lengths ≡ 2
        start_crowded d = start_rows ∙ rw (a, b, c, d)

        module _ (d : crowd ≡ false) where
          pub start_too_long : too_long request.what request.length lengths ≡ true → start_no e records (length packets) request lengths ≡ 3
          start_too_long f = start_rows ∙ rw (a, b, c, d, f)

          module _ (f : too_long request.what request.length lengths ≡ false) where
            pub start_full : full ≡ true → start_no e records (length packets) request lengths ≡ 4
            start_full g = start_rows ∙ rw (a, b, c, d, f, g)

            pub start_beyond : full ≡ false → out ≡ true → start_no e records (length packets) request lengths ≡ 5
            start_beyond g h = start_rows ∙ rw (a, b, c, d, f, g, h)

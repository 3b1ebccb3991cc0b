-- Row 1 of "When the dock says no", as far as the endpoint and the records tell it.
use Rattle.std.specs.Prelude.{ℕ, ◌+◌, Bool, true, false, not, ◌&&◌, ◌||◌, List, eqb, ltb, leb, length}
use Rattle.base.specs.First.{pick}
use Rattle.mask.specs.Occupancy.{held}
use Rattle.mask.specs.declared.Occupancy.{Occupancy}
use Rattle.sizes.specs.Sizes.{record_count, records_size}
use Rattle.records.specs.States.{state_is, in_flight}
use Rattle.records.specs.Records.{record_at}
use Rattle.records.specs.declared.Record.{Record}
use Rattle.dock.specs.declared.Endpoint.{Endpoint}
use Rattle.dock.specs.Limits.{limits_hold}
use Rattle.dock.specs.Trbs.{trb_count, deferred}

-- "place above L-2 except L-1 just before the link's store": with a submission under way of which a TRB is stored.
abbrev pub place_stands : ℕ → ℕ → Bool → ℕ → Bool
place_stands slots place busy stored = ltb (place + 1) slots || (eqb (place + 1) slots && busy && ltb 0 stored)

unfoldable pub place_fits : Endpoint → Bool
place_fits e = place_stands e.shape.slots e.at.place e.work.busy e.work.stored

-- "L, base, dci or slot id outside the above, place above L-2 .., next id 0": none of it. Document 02: "Answer 1 reads the same rule."
unfoldable pub fits : Endpoint → Bool
fits e =
    limits_hold e.shape e.who
    && place_fits e
    && not (eqb e.account.next 0)

-- What the next store of a submission is: the link where the place is L-1, else the next TRB, else for a deferred TD the first TRB again.
pub data Next : Type 0 where
  the_link : Next
  the_trb : Next
  the_first : Next
  none : Next

unfoldable pub next_of : Endpoint → Record → Next
next_of e v =
    pick (eqb (e.at.place + 1) e.shape.slots) the_link
    (pick (ltb e.work.stored (trb_count v)) the_trb
    (pick (deferred v && eqb e.work.stored (trb_count v)) the_first none))

abbrev pub is_none : Next → Bool
is_none the_link = false
is_none the_trb = false
is_none the_first = false
is_none none = true

-- A record is held and in flight.
abbrev pub flies : List ℕ → Occupancy → ℕ → Bool
flies records occupancy r = held occupancy r && state_is (record_at records r).state in_flight

-- The place of a submission's first TRB is a place as well: it is at most L-2 where a later store reads it, in a deferred TD.
abbrev pub first_fits : Endpoint → Record → Bool
first_fits e v = not (deferred v) || ltb (e.work.place + 1) e.shape.slots

-- "a store number past its request's stores": a submission under way whose record is no held one in flight, or whose stores are all made; or one whose first
-- place does not fit.
unfoldable pub strays : Endpoint → List ℕ → Bool
strays e records =
    e.work.busy
    && not
    (ltb e.work.number record_count
    && flies records e.account.occupancy e.work.number
    && leb e.work.stored (trb_count (record_at records e.work.number))
    && not (is_none (next_of e (record_at records e.work.number)))
    && first_fits e (record_at records e.work.number))

-- Row 1 of a call that is lent the records.
unfoldable pub fits_with : Endpoint → List ℕ → Bool
fits_with e records = fits e && eqb (length records) records_size && not (strays e records)

-- A run: a dock that is made, any calls of it but retire and reset, in any order, refused or not, and steps of its controller anywhere, also between two
-- stores. What is asked is written down from the calls' arguments and the numbers of their answers; the list of admitted TRBs is computed from that, and
-- nothing in it is read out of the dock's state. The premises stand in `may`: an event that is taken is for a TRB that the controller has consumed, each at
-- most once, in that order, and coded Success or Short Packet. An event that the dock refuses is not bound by them, and one that comes while a submission is
-- under way is refused (12). Not every consumed TRB need have an event.
use Rattle.std.specs.Prelude.{ℕ, zero, suc, ◌+◌, Bool, true, false, not, ◌&&◌, ◌||◌, List, [], ◌∷◌, ◌++◌, ◌≡◌, eqb, leb, ltb, length}
use Rattle.base.specs.First.{pick}
use Rattle.trb.specs.Cycle.{Pointer}
use Rattle.event.specs.Event.{event_of}
use Rattle.trb.specs.declared.Trb.{Trb}
use Rattle.trb.specs.declared.Words.{Words}
use Rattle.ring.specs.Ring.{slot_address}
use Rattle.dock.specs.declared.Identity.{Identity}
use Rattle.dock.specs.Refusals.{done}
use Rattle.dock.specs.declared.Request.{Request}
use Rattle.dock.specs.declared.Shape.{Shape}
use Rattle.dock.specs.Make.{make}
use Rattle.dock.specs.Reclaim.{code_of}
use Rattle.dock.specs.Run.{State, made_of, Call, configures, starts, stores, submits, reclaims, cancels, retires, begins, ends, stops, resumes, points, after, answered}
use Rattle.dock.specs.Run as dock
use Rattle.dock.specs.Start.{record_taken}
use Rattle.dock.specs.Worth.{accepted}
use Rattle.promise.specs.Controller.{Entry, does, goes, with, outset}
use Rattle.promise.specs.Requested.{Settings, at_making, Last, never, requested, trbs_of, typed, laid_out}

-- What was asked of the dock, by the arguments of the calls that were admitted.
pub record Asked : Type 0 where
  -- the slots and the base that the ring was made with, and the mask, the slot id and the dci
  pub shape : Shape
  pub who : Identity
  -- the settings of the last configure, those of the making before any
  pub settings : Settings
  -- the last request
  pub last : Last

-- The dock with its tables, its controller, and the books that the theorem speaks of.
pub record World : Type 0 where
  pub dock : State
  pub controller : Pointer
  -- what the controller has consumed, in order, as it read it
  pub consumed : List Entry
  pub asked : Asked
  -- the TRBs of the requests that were admitted, in order
  pub trbs : List Trb
  -- how many of them were admitted before the last request
  pub earlier : ℕ
  -- of each record of the dock, the number of the first TRB of the last request that was given it, and one more than that of the last; the list does not
  -- come of these
  pub first : ℕ → ℕ
  pub until : ℕ → ℕ
  -- one more than the number of the last TRB that an event came for
  pub heard : ℕ

-- L, as the ring was made.
abbrev pub slots : World → ℕ
slots w = w.asked.shape.slots

-- THE LIST OF ADMITTED TRBS: computed from what was asked, by the layouts, and neither from the ring nor from the dock's state.
abbrev pub admitted : World → List Entry
admitted w = laid_out (slots w) 0 w.trbs

-- ---- what a move does

-- What a call is to a run: a configure, the start of a submission, a store of the one that is under way, another call beside submissions, or no call of these
-- runs.
pub data Part : Type 0 where
  setting : (packet burst interval : ℕ) → Part
  opening : Request → (lengths : List ℕ) → Part
  filling : Part
  aside : Part
  outside : Part

-- A whole submission comes as its start and stores, and an event as a move of its own, with the turn of its TRB. Retire and reset are not in these runs.
abbrev pub part : Call → Part
part (configures packet burst interval) = setting packet burst interval
part (starts request lengths) = opening request lengths
part stores = filling
part (submits request lengths) = outside
part (dock.hands event) = outside
part (reclaims id) = aside
part (cancels id) = aside
part retires = outside
part begins = outside
part (ends worked) = outside
part stops = aside
part resumes = aside
part points = aside

-- A call is admitted where the number of its answer is 0.
unfoldable pub admits : World → Call → Bool
admits w c = eqb (answered w.dock c).0 0

-- A submission is under way where the next store is served; with none under way a store answers 10.
abbrev pub under_way : World → Bool
under_way w = admits w stores

abbrev pub with_dock : World → State → World
with_dock w d =
    record {
      dock = d;
      controller = w.controller;
      consumed = w.consumed;
      asked = w.asked;
      trbs = w.trbs;
      earlier = w.earlier;
      first = w.first;
      until = w.until;
      heard = w.heard;
    }

-- A configure that is admitted gives the settings of the submissions that follow it.
abbrev pub with_settings : World → State → ℕ → ℕ → ℕ → World
with_settings w d packet burst interval =
    record {
      dock = d;
      controller = w.controller;
      consumed = w.consumed;
      asked = record {
        shape = w.asked.shape;
        who = w.asked.who;
        settings = record { packet = packet; burst = burst; interval = interval };
        last = w.asked.last;
      };
      trbs = w.trbs;
      earlier = w.earlier;
      first = w.first;
      until = w.until;
      heard = w.heard;
    }

-- The TRBs of a request that is admitted are numbered on, and its record has their numbers.
abbrev pub with_number : (ℕ → ℕ) → ℕ → ℕ → ℕ → ℕ
with_number of r n q = pick (eqb q r) n (of q)

abbrev pub with_request : World → State → ℕ → Request → List ℕ → World
with_request w d r request lengths =
    record {
      dock = d;
      controller = w.controller;
      consumed = w.consumed;
      asked = record { shape = w.asked.shape; who = w.asked.who; settings = w.asked.settings; last = requested request lengths };
      trbs = w.trbs ++ trbs_of w.asked.settings request lengths;
      earlier = length w.trbs;
      first = with_number w.first r (length w.trbs);
      until = with_number w.until r (length w.trbs + length (trbs_of w.asked.settings request lengths));
      heard = w.heard;
    }

-- The books after a call that leaves the dock so, by whether it was admitted.
abbrev pub booked : World → State → Bool → Part → World
booked w d granted (setting packet burst interval) = pick granted (with_settings w d packet burst interval) (with_dock w d)
booked w d granted (opening request lengths) = pick granted (with_request w d (record_taken w.dock.endpoint) request lengths) (with_dock w d)
booked w d granted filling = with_dock w d
booked w d granted aside = with_dock w d
booked w d granted outside = with_dock w d

-- An event is taken where the number of its answer is 0.
abbrev pub takes : World → Words → Bool
takes w event = admits w (dock.hands event)

abbrev pub with_heard : World → State → ℕ → World
with_heard w d n =
    record {
      dock = d;
      controller = w.controller;
      consumed = w.consumed;
      asked = w.asked;
      trbs = w.trbs;
      earlier = w.earlier;
      first = w.first;
      until = w.until;
      heard = n;
    }

unfoldable pub handed : World → Words → ℕ → World
handed w event n = with_heard w (after w.dock (dock.hands event)) (pick (takes w event) (suc n) w.heard)

-- One step of the controller.
unfoldable pub stepped : World → World
stepped w =
    let c = w.controller in
    let x = does w.dock.ring c in
    record {
      dock = w.dock;
      controller = goes x c;
      consumed = with x c w.consumed;
      asked = w.asked;
      trbs = w.trbs;
      earlier = w.earlier;
      first = w.first;
      until = w.until;
      heard = w.heard;
    }

-- An event is handed over with the turn of the TRB that it is for, counted from 0 in the order of consumption.
pub data Move : Type 0 where
  calls : Call → Move
  hands : (event : Words) (nth : ℕ) → Move
  steps : Move

abbrev pub act : World → Move → World
act w (calls c) = booked w (after w.dock c) (admits w c) (part c)
act w (hands event nth) = handed w event nth
act w steps = stepped w

-- Whether it is a move of these runs.
abbrev pub within : Part → Bool
within (setting packet burst interval) = true
within (opening request lengths) = true
within filling = true
within aside = true
within outside = false

abbrev pub of_runs : Move → Bool
of_runs (calls c) = within (part c)
of_runs (hands event nth) = true
of_runs steps = true

-- ---- the premises

-- The slot of the TRB number n that was consumed.
abbrev pub slot_at : List Entry → ℕ → ℕ
slot_at [] n = 0
slot_at (e ∷ es) zero = e.at
slot_at (e ∷ es) (suc n) = slot_at es n

-- The event is for TRB number n: consumed, past the last one that an event came for, at its address, and coded 1 or 13.
unfoldable pub is_for : World → Words → ℕ → Bool
is_for w event n =
    leb w.heard n
    && ltb n (length w.consumed)
    && eqb (event_of event).address (slot_address w.asked.shape.base (slot_at w.consumed n))
    && accepted (code_of event)

-- A request's setup fields are numbers of their types.
abbrev pub well_typed : Part → Bool
well_typed (setting packet burst interval) = true
well_typed (opening request lengths) = typed request.what
well_typed filling = true
well_typed aside = true
well_typed outside = true

abbrev pub may : World → Move → Bool
may w (calls c) = within (part c) && well_typed (part c)
may w (hands event nth) = not (takes w event) || is_for w event nth
may w steps = true

-- ---- runs

-- A dock as its making leaves it, with its controller at the outset: shape and identity are those that were given, and no request has come.
abbrev pub from_making : Shape → Identity → State → World
from_making shape who d =
    record {
      dock = d;
      controller = outset;
      consumed = [];
      asked = record { shape = shape; who = who; settings = at_making; last = never };
      trbs = [];
      earlier = 0;
      first = λ r. 0;
      until = λ r. 0;
      heard = 0;
    }

pub data Run : World → Type 0 where
  made : (ring finished records packets : List ℕ) (shape : Shape) (who : Identity)
      → (make ring finished records packets shape who).0.answer ≡ done
      → Run (from_making shape who (made_of (make ring finished records packets shape who)))
  and_then : {w : World} → Run w → (m : Move) → may w m ≡ true → Run (act w m)

-- Many steps of the controller.
unfoldable pub stepping : ℕ → World → World
stepping zero w = w
stepping (suc n) w = stepping n (stepped w)

-- How many TRBs are stored: all that are admitted but, while a submission is under way, those of it that are still to come.
unfoldable pub stored_count : World → ℕ
stored_count w = pick (under_way w) (w.earlier + w.dock.endpoint.work.stored) (length w.trbs)

-- Many moves, and whether each may be made in its turn.
unfoldable pub play : World → List Move → World
play w [] = w
play w (m ∷ ms) = play (act w m) ms

unfoldable pub allowed : World → List Move → Bool
allowed w [] = true
allowed w (m ∷ ms) = may w m && allowed (act w m) ms

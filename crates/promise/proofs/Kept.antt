-- What holds of a dock and its controller between any two moves of a run (`Kept`): the ring side is a state of `order`'s model, with the model's
-- invariant; the place of a TRB that has had its event says so; and the records in flight have every admitted TRB that no event has passed. The
-- definitions only: the files beside this one prove that each move keeps it. Assumes nothing.
use Rattle.std.specs.Prelude.{Some}
use Prim.Native.Nat.{ℕ, zero, suc, ◌+◌, ◌-◌, ◌<◌, ◌≤◌}
use mathlib.Core.Bool.{Bool, true, false}
use mathlib.Core.List.{List, [], ◌∷◌}
use mathlib.Core.Option.{none, some}
use mathlib.Core.Path.{◌≡◌}
use lib.Dec.{eqb}
use lib.ListN.{length}
use Rattle.base.specs.First.{pick}
use Rattle.mask.specs.declared.Occupancy.{Occupancy}
use Rattle.sizes.specs.Sizes.{record_count}
use Rattle.trb.specs.Cycle.{Pointer, type_of}
use Rattle.trb.specs.Layouts.{words_of, words_at}
use Rattle.trb.specs.declared.Trb.{Trb}
use Rattle.trb.specs.declared.Words.{Words}
use Rattle.ring.specs.Ring.{link_trb}
use Rattle.ring.specs.declared.Position.{Position}
use Rattle.finished.specs.Finished.{finished_at}
use Rattle.records.specs.Kinds.{control, bulk, interrupt}
use Rattle.records.specs.Records.{record_at}
use Rattle.records.specs.declared.Record.{Record}
use Rattle.dock.specs.declared.Endpoint.{Endpoint}
use Rattle.dock.specs.RowOne.{flies, the_trb}
use Rattle.dock.specs.Reclaim.{code_of}
use Rattle.dock.specs.NextStore.{stepped}
use Rattle.dock.specs.Run.{State}
use Rattle.dock.specs.Trbs.{trb_count, trb_of, deferred, first_trb, link_for}
use Rattle.dock.specs.Worth.{accepted}
use Rattle.order.specs.Flat.{flat}
use Rattle.order.specs.Model.{idle, opening, busy, placed}
use Rattle.order.specs.Model as model
use Rattle.order.proofs.Index.{pos}
use Rattle.order.proofs.Moves.{Inv, pending}
use Rattle.order.proofs.Numbers.{Numbered}
use Rattle.promise.specs.Controller.{Entry}
use Rattle.promise.specs.Run.{World}
use Rattle.promise.proofs.Laid.{bare, bared}

-- ---- the ring side: a state of the model

abbrev pub position_of : Position → model.Position
position_of p = record { place = p.place; cycle = p.cycle }

abbrev pub pointer_of : Pointer → model.Position
pointer_of c = record { place = c.slot; cycle = c.state }

-- The model's state of a ring with its producer, its controller and the books, with so much of the submission under way left to do.
abbrev pub model_of : (K : ℕ) → List ℕ → Position → Pointer → List Entry → List Trb → ℕ → ℕ → model.Work (flat K) → model.State (flat K)
model_of K ring at controller consumed trbs outstanding before work =
    record {
      ring = ring;
      producer = position_of at;
      work = work;
      controller = pointer_of controller;
      live = true;
      consumed = consumed;
      admitted = model.layout (flat K) (pos K 0) (bared trbs);
      before = before;
      outstanding = outstanding;
    }

abbrev pub model_in : (K : ℕ) → World → ℕ → model.Work (flat K) → model.State (flat K)
model_in K w before work =
    let e = w.dock.endpoint in
    model_of K w.dock.ring e.at w.controller w.consumed w.trbs e.account.outstanding before work

-- If a link stands in slot L-1, it is the ring's own: it leads to slot 0 and toggles.
abbrev pub LinkSlot : (K base : ℕ) → List ℕ → Type 0
LinkSlot K base ring = type_of (words_at ring K) ≡ 6 → (chain c : Bool) × (words_at ring K ≡ words_of (link_trb base chain) c)

-- ---- the submission under way

-- The TRBs that its next n stores of TRBs will store, as the definition of a store has them.
unfoldable pub upcoming : ℕ → Endpoint → Record → List ℕ → List Trb
upcoming zero e v packets = []
upcoming (suc n) e v packets = trb_of e v packets e.work.stored ∷ upcoming n (stepped the_trb e v packets) v packets

-- The words of the link that the dock stores for a record's TD.
abbrev pub link_words : Endpoint → Record → Words
link_words e v = bare (link_for e v)

module _ (K : ℕ) (e : Endpoint) (records packets : List ℕ) where
  abbrev pub in_work : Record
  in_work = record_at records e.work.number

  -- The words of the TRBs that are still to be stored.
  abbrev pub left : List Words
  left = bared (upcoming (trb_count in_work - e.work.stored) e in_work packets)

  -- The place and the cycle that are kept for the first TRB.
  abbrev pub first_at : model.Position
  first_at = record { place = e.work.place; cycle = e.work.cycle }

  module _ (mark before : ℕ) (work : model.Work (flat K)) where
    -- No submission is under way.
    pub record Rests : Type 0 where
      pub free : e.work.busy ≡ false
      pub is : work ≡ idle

    -- A deferred TD of which nothing is stored. `mark` is the number of its first TRB.
    pub record Opens : Type 0 where
      pub taken : e.work.busy ≡ true
      pub late : deferred in_work ≡ true
      pub none_stored : e.work.stored ≡ 0
      pub at_first : first_at ≡ position_of e.at
      pub head : Words
      pub others : List Words
      pub left_are : left ≡ head ∷ others
      pub marked : before ≡ mark
      pub is : work ≡ opening head others (link_words e in_work)

    -- A TD that is not deferred: each TRB stored is the controller's at once.
    pub record Shows : Type 0 where
      pub taken : e.work.busy ≡ true
      pub early : deferred in_work ≡ false
      pub counted : e.work.stored ≤ trb_count in_work
      pub is : work ≡ busy left (link_words e in_work) none

    -- A deferred TD of which a TRB is stored: none is the controller's before the first is stored again.
    pub record Hides : Type 0 where
      pub taken : e.work.busy ≡ true
      pub late : deferred in_work ≡ true
      pub some_stored : 0 < e.work.stored
      pub counted : e.work.stored ≤ trb_count in_work
      pub marked : before ≡ mark
      pub is : work ≡ busy left (link_words e in_work) (some (placed (flat K) first_at (bare (first_trb e in_work packets))))

    pub data Under : Type 0 where
      rests : Rests → Under
      opens : Opens → Under
      shows : Shows → Under
      hides : Hides → Under

-- The request under way is the last that was admitted, and its first TRB goes to the place that is kept for it.
pub record Begun (K : ℕ) (e : Endpoint) (records : List ℕ) (first : ℕ → ℕ) (total : ℕ) : Type 0 where
  pub last : first e.work.number + trb_count (record_at records e.work.number) ≡ total
  pub first_at_lem : (pos K (first e.work.number)).place ≡ e.work.place

-- ---- the finished places

-- The event that stands in place i is for TRB number `latest`: the last one that was stored in slot i, of `stored` in all; and no event is for a TRB
-- behind `heard`. Its code is accepted.
pub record Latest (K stored heard i : ℕ) (event : Words) : Type 0 where
  pub latest : ℕ
  pub there : (pos K latest).place ≡ i
  pub was_stored : latest < stored
  pub not_again : stored ≤ latest + K
  pub was_heard : latest < heard
  pub fine : accepted (code_of event) ≡ true

abbrev pub Places : (K : ℕ) → List ℕ → ℕ → ℕ → Type 0
Places K finished stored heard = (i : ℕ) (event : Words) → i < K → finished_at finished i ≡ Some event → Latest K stored heard i event

-- ---- the records in flight

-- The count of a record goes by its kind.
pub record Counts (v : Record) : Type 0 where
  pub some : 0 < v.count
  pub of_control : v.kind ≡ control → v.count ≡ pick (eqb v.length 0) 2 3
  pub of_bulk : v.kind ≡ bulk → v.count ≡ 1
  pub of_interrupt : v.kind ≡ interrupt → v.count ≡ 1

-- A record in flight has the TRBs from number `first` on, as many as it counts, of `total` in all.
pub record Holds (K total first : ℕ) (v : Record) : Type 0 where
  pub begins : (pos K first).place ≡ v.place
  pub ends : first + v.count ≤ total
  pub counts : Counts v

-- A record in flight has number j.
pub record Owner (records : List ℕ) (occupancy : Occupancy) (first : ℕ → ℕ) (j : ℕ) : Type 0 where
  pub owner : ℕ
  pub within : owner < record_count
  pub flying : flies records occupancy owner ≡ true
  pub from : first owner ≤ j
  pub to : j < first owner + (record_at records owner).count

pub record Flights (K : ℕ) (records : List ℕ) (occupancy : Occupancy) (first : ℕ → ℕ) (total heard : ℕ) : Type 0 where
  pub each : (r : ℕ) → r < record_count → flies records occupancy r ≡ true → Holds K total (first r) (record_at records r)
  -- every admitted TRB that no event has passed is that of a request in flight
  pub all : (j : ℕ) → heard ≤ j → j < total → Owner records occupancy first j

-- ---- all of it

pub record KeptOf (d : State) (controller : Pointer) (consumed : List Entry) (trbs : List Trb) (first : ℕ → ℕ) (heard : ℕ) : Type 0 where
  pub K : ℕ
  pub some_slot : 2 ≤ K
  pub shape : d.endpoint.shape.slots ≡ suc K
  pub link_slot : LinkSlot K d.endpoint.shape.base d.ring
  pub before : ℕ
  pub work : model.Work (flat K)
  pub inv : Inv (model_of K d.ring d.endpoint.at controller consumed trbs d.endpoint.account.outstanding before work)
  pub numbered : Numbered (model_of K d.ring d.endpoint.at controller consumed trbs d.endpoint.account.outstanding before work) (bared trbs)
  pub under : Under K d.endpoint d.records d.packets (first d.endpoint.work.number) before work
  pub begun : d.endpoint.work.busy ≡ true → Begun K d.endpoint d.records first (length trbs)
  -- how many TRBs are stored
  pub stored : ℕ
  pub split : stored + length (pending work) ≡ length trbs
  pub heard_consumed : heard ≤ length consumed
  pub places : Places K d.finished stored heard
  pub flights : Flights K d.records d.endpoint.account.occupancy first (length trbs) heard

-- It does not know what was asked: only the TRBs that came of it.
abbrev pub Kept : World → Type 0
Kept w = KeptOf w.dock w.controller w.consumed w.trbs w.first w.heard

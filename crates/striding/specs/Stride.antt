-- A submission TRB by TRB: a TRB's store and, where the place reaches L-1, the link's behind it. `dock` has it store by store; that both come to the
-- same is `strides_end` in proofs/.
use Rattle.std.specs.Prelude.{ℕ, zero, suc, ◌+◌, ◌*◌, ◌≤◌, ◌<◌, Bool, List, eqb, Ok}
use Rattle.base.specs.First.{pick}
use Rattle.trb.specs.declared.Trb.{Trb}
use Rattle.ring.specs.Ring.{position_by, ring_by, link_trb}
use Rattle.ring.specs.declared.Manner.{Manner}
use Rattle.ring.specs.declared.Manner.TheVariants.{Around, Again}
use Rattle.ring.specs.declared.Position.{Position}
use Rattle.finished.specs.Finished.{clear_place}
use Rattle.records.specs.declared.Record.{Record}
use Rattle.dock.specs.declared.Endpoint.{Endpoint}
use Rattle.dock.specs.declared.Shape.{Shape}
use Rattle.dock.specs.declared.After.{After}
use Rattle.dock.specs.declared.Submitted.{Submitted}
use Rattle.dock.specs.State.{idle, with_store}
use Rattle.dock.specs.NextStore.{with_stored, run_on, frame_on, manner_of, first_at}
use Rattle.dock.specs.Trbs.{trb_of, deferred, first_trb, chained}

-- "Reaching L-1 it adds a second store, the link at L-1 with the old cycle, then place 0 and the cycle toggled": the position,
abbrev pub linked : ℕ → Position → Position
linked slots p = pick (eqb (p.place + 1) slots) (position_by Around p) p

-- and the ring, with the link chained or not.
abbrev pub linked_ring : Shape → Bool → Position → List ℕ → List ℕ
linked_ring shape chain p ring = pick (eqb (p.place + 1) shape.slots) (ring_by Around ring p (link_trb shape.base chain)) ring

unfoldable pub link_on : Shape → Bool → Position → List ℕ → Position × List ℕ
link_on shape chain p ring = (linked shape.slots p, linked_ring shape chain p ring)

-- What such stores ask: the ring and the finished table have four words a slot at least, and the place is one of the slots 0 to L-2.
abbrev pub Placed : Shape → Position → ℕ → ℕ → Type 0
Placed shape p ring finished = (4 * shape.slots ≤ ring) × (4 * shape.slots ≤ finished) × (p.place + 1 < shape.slots)

-- A TRB at the place, by a manner of ring's, its place in the finished table cleared, and the link where it is due.
unfoldable pub put_trb : Shape → Bool → Position → Trb → Manner → List ℕ → List ℕ → Position × List ℕ × List ℕ
put_trb shape chain p trb manner ring finished =
    let q = position_by manner p in (linked shape.slots q, linked_ring shape chain q (ring_by manner ring p trb), clear_place finished p.place)

-- The next TRB of the submission under way, so.
abbrev pub next_put : Endpoint → Record → List ℕ → List ℕ → List ℕ → Position × List ℕ × List ℕ
next_put e v packets ring finished = put_trb e.shape (chained e v) e.at (trb_of e v packets e.work.stored) (manner_of e v) ring finished

-- The endpoint behind it, which stands at p.
abbrev pub strode : Endpoint → Record → List ℕ → Position → Endpoint
strode e v packets p = with_store e p (frame_on e v) (with_stored e.work (e.work.stored + 1) (run_on e v packets))

-- So many TRBs.
unfoldable pub strides : ℕ → Endpoint → Record → List ℕ → List ℕ → List ℕ → Endpoint × List ℕ × List ℕ
strides zero e v packets ring finished = (e, ring, finished)
strides (suc n) e v packets ring finished =
    let s = next_put e v packets ring finished in strides n (strode e v packets s.0) v packets s.1 s.2

-- The end of a submission whose TRBs are stored: for a deferred TD the first TRB again, with the right cycle; then nothing is under way.
unfoldable pub closed : Record → List ℕ → Endpoint × List ℕ × List ℕ → After Submitted × List ℕ × List ℕ
closed v packets s = (
  record { answer = Ok (record { id = v.id; bell = s.0.who.dci }); endpoint = with_store s.0 s.0.at s.0.periodic.frame idle },
  pick (deferred v) (ring_by Again s.1 (first_at s.0.work) (first_trb s.0 v packets)) s.1,
  s.2,
)

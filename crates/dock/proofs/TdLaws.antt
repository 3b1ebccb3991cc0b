-- A TD by name: a control request's TD is the deferred one, and neither the first TRB of a deferred TD nor the link of any changes while it is stored.
-- Assumes nothing.
use Prim.Native.Nat.{ℕ, ◌+◌}
use mathlib.Core.Bool.{Bool, true, false}
use mathlib.Core.List.{List}
use mathlib.Core.Path.{◌≡◌, refl, sym, ap, ap₂, ◌∙◌}
use Rattle.base.proofs.Decide.{Decides, if_not}
use Rattle.ring.specs.Ring.{onward, around, link_trb}
use Rattle.ring.specs.declared.Position.{Position}
use Rattle.records.specs.Kinds.{control, isoch}
use Rattle.records.proofs.KindLaws.{eq_kind, by_kind, kinds_apart}
use Rattle.records.specs.declared.Record.{Record}
use Rattle.dock.specs.declared.Endpoint.{Endpoint}
use Rattle.dock.specs.declared.Shape.{Shape}
use Rattle.dock.specs.RowOne.{Next, the_link, the_trb, the_first, none}
use Rattle.dock.specs.State.{with_store}
use Rattle.dock.specs.NextStore.{with_stored, run_on, frame_on, stepped}
use Rattle.dock.specs.Trbs.{trb_of, setup_trb, deferred, first_trb, chained, link_for}
use Rattle.dock.proofs.StoreStepLaws.{step_keeps}

-- A control request's TD, and no other, is deferred.
pub by_deferred : (v : Record) → Decides (deferred v) (v.kind ≡ control)
unfolding deferred
by_deferred v = by_kind v.kind control

-- Its first TRB is the setup,
pub first_setup : (e : Endpoint) (v : Record) (packets : List ℕ) → deferred v ≡ true → first_trb e v packets ≡ setup_trb v
unfolding trb_of
first_setup e v packets late = rw (eq_kind v.kind control ((by_deferred v).so late))

-- so that it goes by the record alone.
pub first_same : (a b : Endpoint) (v : Record) (packets others : List ℕ) → deferred v ≡ true → first_trb a v packets ≡ first_trb b v others
first_same a b v packets others late = first_setup a v packets late ∙ sym (first_setup b v others late)

-- No link is chained.
pub unchained : (e : Endpoint) (v : Record) → chained e v ≡ false
unfolding chained
unchained e v = refl

-- The link is the same from the first store of a submission to its last.
pub chain_worked : (e : Endpoint) (v : Record) (p : Position) (frame stored address : ℕ)
    → chained (with_store e p frame (with_stored e.work stored address)) v ≡ chained e v
unfolding chained
chain_worked e v p frame stored address = refl

pub chain_same : (n : Next) (e : Endpoint) (v : Record) (packets : List ℕ) → chained (stepped n e v packets) v ≡ chained e v
unfolding stepped
chain_same the_link e v packets = chain_worked e v (around e.at) e.periodic.frame e.work.stored e.work.address
chain_same the_trb e v packets = chain_worked e v (onward e.at) (frame_on e v) (e.work.stored + 1) (run_on e v packets)
chain_same the_first e v packets = chain_worked e v e.at e.periodic.frame (e.work.stored + 1) e.work.address
chain_same none e v packets = refl

pub link_kept : (n : Next) (e : Endpoint) (v : Record) (packets : List ℕ) → link_for (stepped n e v packets) v ≡ link_for e v
link_kept n e v packets =
    ap₂ (λ (base : ℕ) (chain : Bool). link_trb base chain) (ap (λ (s : Shape). s.base) (step_keeps n e v packets).shape) (chain_same n e v packets)

-- ---- an ISO request: each of its packets is a TD of its own

pub isoch_early : (v : Record) → v.kind ≡ isoch → deferred v ≡ false
isoch_early v kind = if_not (by_deferred v) (λ (q : v.kind ≡ control). kinds_apart v.kind control isoch refl q kind)

pub isoch_unchained : (e : Endpoint) (v : Record) → v.kind ≡ isoch → chained e v ≡ false
isoch_unchained e v kind = unchained e v

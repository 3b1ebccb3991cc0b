-- `reclaiming::reclaim_at` meets its contract, by the record's state. Assumes nothing.
use mathlib.Core.Path.{ap, sym, ◌∙◌, ◌≡◌}
use Rattle.std.specs.Prelude.{Some}
use Rattle.records.specs.States.{state_number, state_in}
use Rattle.records.proofs.StateLaws.{state_said}
use Rattle.records.specs.declared.Record.{Record}
use Rattle.records.specs.declared.State.TheVariants.{InFlight}
use Rattle.refusal.specs.Misplaced.{misplaced}
use Rattle.refusal.proofs.CallLaws.{well_placed}
use Rattle.reclaiming.proofs.reclaim_at.Goals as goal

-- A record in flight is not misplaced, so that its packets and its place fit.
pub reclaim_flying-requires : goal.reclaim_flying-requires
reclaim_flying-requires c =
    let v : Record = c.record_at-v.result in
    let slots = c.args.e.shape.slots in
    let said : state_in v.state ≡ Some c.in-Some-InFlight.field-0 = sym c.from_word.ensures ∙ c.in-Some-InFlight.is in
    let flying : c.in-Some-InFlight.field-0 ≡ InFlight = c.in-Some-InFlight.field-0-is in
    let p = c.requires in
    (p.1, p.2, (well_placed slots v (ap (misplaced slots) c.record_at-v.ensures ∙ p.3) (state_said v.state c.in-Some-InFlight.field-0 said ∙ ap state_number flying)).1)

pub invariant_of-reclaim_flying : goal.invariant_of-reclaim_flying
invariant_of-reclaim_flying c =
    let v : Record = c.record_at-v.result in
    let slots = c.args.e.shape.slots in
    let said : state_in v.state ≡ Some c.in-Some-InFlight.field-0 = sym c.from_word.ensures ∙ c.in-Some-InFlight.is in
    let flying : c.in-Some-InFlight.field-0 ≡ InFlight = c.in-Some-InFlight.field-0-is in
    let s = c.requires.0 in
    let place = (well_placed slots v (ap (misplaced slots) c.record_at-v.ensures ∙ c.requires.3) (state_said v.state c.in-Some-InFlight.field-0 said ∙ ap state_number flying)).0 in
    record { shown = record { least = s.least; most = s.most; table = s.table; place = place; held = s.held } }

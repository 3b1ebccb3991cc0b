-- `refusal::is_bad` meets its contract: each arm is the definition at what is found. Assumes nothing.
use mathlib.Core.Path.{sym, ap, ◌∙◌}
use Rattle.dock.specs.Reclaim.{bad_record}
use Rattle.refusal.specs.Misplaced.{misplaced}
use Rattle.refusal.proofs.CallLaws.{found_within, bad_found}
use borrow.Author.Rules.{rules}
use Rattle.refusal.proofs.is_bad.Goals as goal

pub record_at-requires : goal.record_at-requires
record_at-requires c = let a = c.args in (search rules, found_within a.records.now a.e.account.occupancy a.id _ (sym c.in-Some.is ∙ c.find_id-found.ensures))

pub returns-in-None : goal.returns-in-None
returns-in-None c =
    let a = c.args in
    ap (bad_record a.e a.records.now) (sym c.in-None.is ∙ c.find_id-found.ensures)

pub returns-in-Some : goal.returns-in-Some
returns-in-Some c =
    let a = c.args in
    c.is_misplaced.ensures
    ∙ ap (misplaced a.e.shape.slots) c.record_at.ensures
    ∙ bad_found a.e a.records.now _
    ∙ ap (bad_record a.e a.records.now) (sym c.in-Some.is ∙ c.find_id-found.ensures)

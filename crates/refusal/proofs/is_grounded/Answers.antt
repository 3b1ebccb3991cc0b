-- `refusal::is_grounded` meets its contract: each arm is the definition at what is found. Assumes nothing.
use mathlib.Core.Path.{sym, ap, ◌∙◌}
use Rattle.dock.specs.Cancel.{not_flying}
use Rattle.refusal.proofs.CallLaws.{found_within}
use borrow.Author.Rules.{rules}
use Rattle.refusal.proofs.is_grounded.Goals as goal

pub record_at-v-requires : goal.record_at-v-requires
record_at-v-requires c = let a = c.args in (search rules, found_within a.records.now a.occupancy a.id _ (sym c.in-Some.is ∙ c.find_id-found.ensures))

pub returns-in-None : goal.returns-in-None
returns-in-None c =
    let a = c.args in ap (not_flying a.records.now) (sym c.in-None.is ∙ c.find_id-found.ensures)

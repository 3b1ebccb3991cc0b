-- `completion::mark` meets its contract: each arm is the definition at what is found. Assumes nothing.
use mathlib.Core.Path.{sym, ap, ◌∙◌}
use Rattle.dock.specs.Cancel.{marked}
use Rattle.refusal.proofs.CallLaws.{found_within}
use borrow.Author.Rules.{rules}
use Rattle.completion.proofs.mark.Goals as goal

pub set_word-requires : goal.set_word-requires
set_word-requires c =
    let a = c.args in
    let h = found_within a.records.now a.occupancy a.id _ (sym c.in-Some.is ∙ c.find_id-found.ensures) in
    search rules

pub returns-in-None : goal.returns-in-None
returns-in-None c =
    let a = c.args in ap (marked a.records.now) (sym c.in-None.is ∙ c.find_id-found.ensures)

pub returns-in-Some : goal.returns-in-Some
returns-in-Some c =
    let a = c.args in
    c.set_word.ensures ∙ ap (marked a.records.now) (sym c.in-Some.is ∙ c.find_id-found.ensures)

-- `refusal::reclaim_no` meets its contract: behind the sizes the records have theirs. Assumes nothing.
use borrow.Author.Tests.{not-false}
use mathlib.Core.Path.{sym, ◌∙◌}
use Rattle.dock.proofs.NumberLaws.{unrefused}
use Rattle.refusal.proofs.CallLaws.{fitted}
use Rattle.refusal.proofs.reclaim_no.Goals as goal

pub is_bad-requires : goal.is_bad-requires
is_bad-requires c =
    let a = c.args in
    (fitted a.e a.finished a.records.now a.packets (sym c.is_fitted.ensures ∙ not-false _ (unrefused _ _ c.in_ok-refuse.ensures))).1

-- `finished::set_finished` meets its contract, by the fourth word. Assumes nothing.
use borrow.Author.Tests.{eq-eqb, ne_eqb}
use Rattle.finished.specs.Finished.{fill_place}
use Rattle.finished.proofs.set_finished.Goals as goal

pub returns-then-finished-last-ne0 : goal.returns-then-finished-last-ne0
unfolding fill_place
returns-then-finished-last-ne0 c = simp (ne_eqb _ _ c.if-finished-last-ne0.true)

pub returns : goal.returns
unfolding fill_place
returns c =
    simp (eq-eqb _ _ c.if-finished-last-ne0.false, c.put_place.ensures)

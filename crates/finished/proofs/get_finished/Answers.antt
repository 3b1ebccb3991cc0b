-- `finished::get_finished` meets its contract, by the fourth word. Assumes nothing.
use borrow.Author.Tests.{eq-eqb, ne_eqb}
use Rattle.trb.specs.Layouts.{words_at}
use Rattle.finished.specs.Finished.{finished_at}
use Rattle.finished.proofs.get_finished.Goals as goal

pub returns-then-last-eq0 : goal.returns-then-last-eq0
unfolding finished_at
returns-then-last-eq0 c = simp (eq-eqb _ _ c.if-last-eq0.true)

pub returns : goal.returns
unfolding finished_at words_at
returns c =
    simp (ne_eqb _ _ c.if-last-eq0.false)

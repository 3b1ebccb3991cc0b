-- `resetting::begin_reset` meets its contract: refused, nothing to do, or two commands. Assumes nothing.
use borrow.Author.Tests.{eq-eqb, ne_eqb, not-true, not-false}
use Rattle.dock.specs.Reset.{begin_no, begin_reset}
use Rattle.dock.proofs.NumberLaws.{declined, passed}
use Rattle.checks.proofs.StandLaws.{begin_fits, place_address}
use Rattle.resetting.proofs.begin_reset.Goals as goal

pub returns-in-Err : goal.returns-in-Err
unfolding begin_reset
returns-in-Err c =
    let d = declined (begin_no c.args.e c.args.records.now) c.in-Err.ensures in
    simp (ne_eqb _ _ d.0, d.1)

pub returns-then-not-e : goal.returns-then-not-e
unfolding begin_reset
returns-then-not-e c =
    let a = c.args in
    simp (eq-eqb _ _ (passed (begin_no a.e a.records.now) c.in_default.ensures), not-true a.e.flags.halted c.if-not-e.true)

pub dequeue_words-dequeue-requires : goal.dequeue_words-dequeue-requires
dequeue_words-dequeue-requires c =
    let a = c.args in
    place_address a.e (begin_fits a.e a.records.now (passed (begin_no a.e a.records.now) c.in_default.ensures))

pub returns : goal.returns
unfolding begin_reset
returns c =
    let a = c.args in
    simp (eq-eqb _ _ (passed (begin_no a.e a.records.now) c.in_default.ensures), not-false a.e.flags.halted c.if-not-e.false, c.reset_words-reset.ensures, c.dequeue_words-dequeue.ensures)

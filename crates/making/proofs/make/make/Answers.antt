-- `make` meets its contract: one check, the four tables zeroed, one answer. Assumes nothing.
use borrow.Author.Tests.{ne_eqb}
use lib.ListN.{length}
use Rattle.dock.specs.Make.{make_no, make}
use Rattle.dock.proofs.NumberLaws.{declined, passed}
use Rattle.making.proofs.make.make.Goals as goal

pub returns-in-Err : goal.returns-in-Err
unfolding make
returns-in-Err c =
    let a = c.args in
    let d = declined (make_no (length a.ring.now) (length a.finished.now) (length a.records.now) (length a.packets.now) a.shape a.who) c.in-Err.ensures in
    simp (ne_eqb _ _ d.0, d.1, c.blank.ensures)

pub returns : goal.returns
unfolding make
returns c =
    let a = c.args in
    simp (
      passed (make_no (length a.ring.now) (length a.finished.now) (length a.records.now) (length a.packets.now) a.shape a.who) c.in_default.ensures,
      c.fresh.ensures,
      c.fill.ensures.after (λ y k. k),
      c.fill-2.ensures.after (λ y k. k),
      c.fill-3.ensures.after (λ y k. k),
      c.fill-4.ensures.after (λ y k. k),
    )

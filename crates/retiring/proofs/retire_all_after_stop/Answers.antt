-- `retiring::retire_all_after_stop` meets its contract: refused, or every record retired. Assumes nothing.
use mathlib.Core.Path.{sym}
use borrow.Author.Tests.{eq-eqb, ne_eqb}
use Rattle.dock.specs.Retire.{record_no, retire}
use Rattle.dock.proofs.NumberLaws.{declined, passed}
use Rattle.checks.proofs.StandLaws.{record_size}
use Rattle.retiring.proofs.retire_all_after_stop.Goals as goal

pub returns-in-Err : goal.returns-in-Err
unfolding retire
returns-in-Err c =
    let d = declined (record_no c.args.e c.args.records.now) c.in-Err.ensures in
    simp (ne_eqb _ _ d.0, d.1)

pub retire_all-outstanding-requires : goal.retire_all-outstanding-requires
retire_all-outstanding-requires c =
    let a = c.args in
    record_size a.e a.records.now (passed (record_no a.e a.records.now) c.in_default.ensures)

pub returns : goal.returns
unfolding retire
returns c =
    let a = c.args in
    let all = c.retire_all-outstanding.ensures in
    simp (eq-eqb _ _ (passed (record_no a.e a.records.now) c.in_default.ensures), sym all)

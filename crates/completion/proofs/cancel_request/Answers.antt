-- `completion::cancel_request` meets its contract: refused with the tables as they are, or the record marked. Assumes nothing.
use Rattle.std.proofs.lemmas.Result.{err_from_is_err_and}
use borrow.Author.Tests.{ne_eqb}
use Rattle.dock.specs.Cancel.{cancel_no, cancel}
use Rattle.dock.proofs.NumberLaws.{declined, passed}
use Rattle.refusal.proofs.CallLaws.{cancel_sized}
use Rattle.completion.proofs.cancel_request.Goals as goal

pub returns-in_err-cancel_no : goal.returns-in_err-cancel_no
unfolding cancel
returns-in_err-cancel_no c =
    let a = c.args in
    let p = err_from_is_err_and c.from_residual.result c.from_residual.ensures.1 in
    let d = declined (cancel_no a.e a.records.now a.id) c.in_err-cancel_no.ensures in
    simp (p.1, p.2, ne_eqb _ _ d.0, d.1)

pub mark-requires : goal.mark-requires
mark-requires c =
    let a = c.args in
    cancel_sized _ _ _ (passed (cancel_no a.e a.records.now a.id) c.in_ok-cancel_no.ensures)

pub returns : goal.returns
unfolding cancel
returns c =
    let a = c.args in
    simp (passed (cancel_no a.e a.records.now a.id) c.in_ok-cancel_no.ensures, c.mark.ensures)

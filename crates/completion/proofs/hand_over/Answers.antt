-- `completion::hand_over` meets its contract: refused with the table as it is, or the place filled. Assumes nothing.
use Prim.Native.Nat.{ℕ}
use mathlib.Core.Path.{◌≡◌}
use native.Mathlib.Omega.{arith}
use Rattle.std.proofs.lemmas.Result.{err_from_is_err_and}
use borrow.Author.Tests.{eq-eqb, ne_eqb}
use lib.ListN.{length}
use Rattle.dock.specs.HandOver.{hand_over_no, hand_over}
use Rattle.dock.proofs.NumberLaws.{declined, passed}
use Rattle.refusal.proofs.CallLaws.{handed}
use Rattle.completion.proofs.hand_over.Goals as goal

pub returns-in_err-hand_over_no : goal.returns-in_err-hand_over_no
unfolding hand_over
returns-in_err-hand_over_no c =
    let a = c.args in
    let p = err_from_is_err_and c.from_residual.result c.from_residual.ensures.1 in
    let d = declined (hand_over_no a.e (length a.finished.now) a.event) c.in_err-hand_over_no.ensures in
    simp (p.1, p.2, ne_eqb _ _ d.0, d.1)

pub set_finished-requires : goal.set_finished-requires
set_finished-requires c =
    let a = c.args in
    let h = handed _ _ _ (passed (hand_over_no a.e (length a.finished.now) a.event) c.in_ok-hand_over_no.ensures) in
    let s = c.place_for-slot.ensures in
    omega arith

pub returns : goal.returns
unfolding hand_over
returns c =
    let a = c.args in
    simp (passed (hand_over_no a.e (length a.finished.now) a.event) c.in_ok-hand_over_no.ensures, c.set_finished.ensures, c.place_for-slot.ensures)

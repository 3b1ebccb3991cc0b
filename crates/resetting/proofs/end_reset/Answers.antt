-- `resetting::end_reset` meets its contract. Assumes nothing.
use mathlib.Core.Bool.{not, ◌&&◌}
use mathlib.Core.Path.{◌≡◌, ◌∙◌}
use borrow.Author.Tests.{eq-eqb, ne_eqb}
use Rattle.dock.specs.Reset.{end_no, end_reset}
use Rattle.dock.proofs.NumberLaws.{declined, passed}
use Rattle.resetting.proofs.end_reset.Goals as goal
use Rattle.resetting.proofs.end_reset.Goals.{then-e, else-e}

pub returns-in-Err : goal.returns-in-Err
unfolding end_reset
returns-in-Err c =
    let d = declined (end_no c.args.e) c.in-Err.ensures in
    simp (ne_eqb _ _ d.0, d.1)

pub returns : goal.returns
unfolding end_reset
returns c =
    let a = c.args in
    let halted : c.if-e.flags ≡ (a.e.flags.halted && not a.worked) =
    elim c.if-e.branch [ then-e w ↦ simp w.if-e.true w.flags-is | else-e w ↦ simp w.if-e.false (w.flags-is ∙ w.if-e.false) ] in
    simp (eq-eqb _ _ (passed (end_no a.e) c.in_default.ensures), halted)

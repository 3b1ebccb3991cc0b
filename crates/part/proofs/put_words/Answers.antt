-- `part::put_words` meets its contract: the length decides, and four stores into four leave the four words. Assumes nothing.
use mathlib.Core.Path.{◌≡◌, ap}
use mathlib.Core.Bool.{true}
use mathlib.Core.List.{List}
use Prim.Native.Nat.{ℕ}
use native.Mathlib.Omega.{arith}
use borrow.Author.Tests.{eq-eqb, ne_eqb}
use lib.ListN.{length}
use Rattle.base.specs.Part.{filled}
use Rattle.base.proofs.Lent.{all_stored}
use Rattle.trb.specs.Layouts.{listed}
use Rattle.part.proofs.put_words.Goals as goal

pub returns-then-part-ne4 : goal.returns-then-part-ne4
unfolding filled
returns-then-part-ne4 c = simp (ne_eqb _ _ c.if-part-ne4.true)

pub returns : goal.returns
unfolding filled
returns c =
    let a = c.args in
    let four : length a.part.now ≡ 4 = omega arith in
    simp (eq-eqb _ _ four) (ap (λ (l : List ℕ). (true, l)) (all_stored (listed a.w) a.part.now four))

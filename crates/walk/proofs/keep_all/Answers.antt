-- `walk::keep_all` meets its contract. The loop's invariant is the definition at i. Assumes nothing.
use Prim.Native.Nat.{ℕ}
use mathlib.Core.List.{List}
use mathlib.Core.Path.{ap, ◌∙◌}
use native.Mathlib.Omega.{arith}
use lib.ListN.{get_or}
use Rattle.packets.specs.declared.Packet.{Packet}
use Rattle.marking.specs.Marking.{nowhere}
use Rattle.marking.specs.Words.{keep_one}
use Rattle.walk.proofs.LoadLaws.{keep_more}
use Rattle.walk.proofs.keep_all.Goals as goal

pub loop-i-preserved : goal.loop-i-preserved
loop-i-preserved c =
    let l = c.loop-i in
    let a = c.args in
    let ps : ℕ → Packet = λ j. get_or a.held j nowhere in (
      omega arith,
      c.keep.auto.packets ∙ l.invariant.1,
      c.keep.ensures ∙ ap (λ (x : List ℕ). keep_one x a.number l.i (ps l.i)) l.invariant.2 ∙ keep_more l.i a.packets.now a.number ps,
    )

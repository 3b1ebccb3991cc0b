-- `walk` meets its contract. The loop's invariant: the steps that are left, from where the controller stands, are those that were to be taken. Assumes nothing.
use Rattle.std.proofs.Common.{◌≡◌, suc, ◌+◌, ◌-◌, ◌∙◌, arith}
use Rattle.bench.specs.Walk.{walk}
use Rattle.bench.proofs.tools.walk.Goals as goal

pub loop-preserved : goal.loop-preserved
unfolding walk
loop-preserved c =
    let l = c.loop in
    let less : c.args.most - l.counter ≡ suc (c.args.most - (l.counter + 1)) = omega arith in
    (rw (← l.invariant.0, less, ← c.stride.ensures.leaves, c.in-Some.is), c.stride.ensures.same_bytes ∙ l.invariant.1)

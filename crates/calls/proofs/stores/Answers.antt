-- `stores` meets its contract. The loop's invariant: the stores that are left, from the endpoint and the tables as they stand, are those that were to be made. Assumes nothing.
use Rattle.std.proofs.Common.{◌≡◌, suc, ◌+◌, ◌-◌, ◌∙◌, arith}
use borrow.Author.Tests.{not-false}
use Rattle.calls.specs.Calls.{stores}
use Rattle.calls.proofs.stores.Goals as goal

pub loop-preserved : goal.loop-preserved
unfolding stores
loop-preserved c =
    let l = c.loop in
    let less : c.args.most - l.counter ≡ suc (c.args.most - (l.counter + 1)) = omega arith in
    (rw (← l.invariant.0, less, ← c.stored-t.ensures.leaves, not-false _ c.if-not-t.false), c.stored-t.ensures.same_bytes ∙ l.invariant.1)

-- `ring::enque_transfer_again` meets its contract: it is a deferred TRB's second store. Assumes nothing.
use mathlib.Core.Path.{ap}
use mathlib.Core.List.{List}
use Prim.Native.Nat.{ℕ}
use Rattle.ring.specs.declared.Position.{Position}
use Rattle.ring.specs.Ring.{stored_by}
use Rattle.ring.proofs.enque_transfer_again.Goals as goal

pub returns : goal.returns
unfolding stored_by
returns c = ap (λ (x : Position × List ℕ). x.1) c.stored.ensures

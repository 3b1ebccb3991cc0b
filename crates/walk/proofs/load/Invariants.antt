-- `walk::load` meets its contract. The loop's invariant is the definition at i. Assumes nothing.
use Prim.Native.Nat.{◌≤◌}
use mathlib.Core.Path.{◌≡◌}
use Rattle.walk.specs.Loaded.{loaded}
use Rattle.walk.proofs.load.Given as goal

abbrev pub invariant-loop-i : goal.invariant-loop-i
invariant-loop-i l =
    (l.i ≤ l.count) × (l.held ≡ loaded l.i l.packets l.number)

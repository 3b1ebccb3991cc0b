-- `walk::total_of` meets its contract. The loop's invariant is the definition at i, and 31 bits a packet. Assumes nothing.
use Prim.Native.Nat.{◌*◌, ◌≤◌}
use mathlib.Core.Path.{◌≡◌}
use Rattle.dock.specs.Reclaim.{total}
use Rattle.walk.proofs.total_of.Given as goal

abbrev pub invariant-loop-i : goal.invariant-loop-i
invariant-loop-i l =
    (l.i ≤ l.k) × (l.sum ≡ total l.i l.packets l.number) × (l.sum ≤ 2147483648 * l.i)

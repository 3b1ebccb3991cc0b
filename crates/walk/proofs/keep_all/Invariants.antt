-- `walk::keep_all` meets its contract. The loop's invariant is the definition at i. Assumes nothing.
use Prim.Native.Nat.{ℕ, ◌≤◌}
use mathlib.Core.Path.{◌≡◌}
use lib.ListN.{length, get_or}
use Rattle.marking.specs.Marking.{nowhere}
use Rattle.marking.specs.Words.{keep_below}
use Rattle.walk.proofs.keep_all.Given as goal

abbrev pub invariant-loop-i : goal.invariant-loop-i
invariant-loop-i l =
    (l.i ≤ l.count) × (length l.packets ≡ length l.initial.packets) × (l.packets ≡ keep_below l.i l.initial.packets l.number (λ (j : ℕ). get_or l.held j nowhere))

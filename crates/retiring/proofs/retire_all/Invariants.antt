-- `retiring::retire_all` meets its contract. The invariant is the definition at r. Assumes nothing.
use Prim.Native.Nat.{ℕ}
use mathlib.Core.List.{List}
use mathlib.Core.Path.{◌≡◌}
use lib.ListN.{length}
use Rattle.dock.specs.Retire.{retired_below}
use Rattle.retiring.proofs.retire_all.Given as goal

abbrev pub invariant-loop-r : goal.invariant-loop-r
invariant-loop-r l =
    (length l.records ≡ length l.initial.records)
    × (◌≡◌ {A = ℕ × List ℕ} (l.out, l.records) (retired_below l.r l.occupancy l.outstanding l.initial.records))

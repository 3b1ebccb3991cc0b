-- `copy_lengths` meets its contract. The loop's invariant: the lengths passed are copied. Assumes nothing.
use Rattle.std.proofs.Common.{◌≡◌, ◌≤◌, length}
use lib.Seq.{paste}
use Rattle.starting.proofs.copy_lengths.Given as goal

abbrev pub invariant-loop-i : goal.invariant-loop-i
invariant-loop-i l =
    (l.i ≤ length l.lengths) × (l.packets ≡ paste l.initial.packets l.start l.lengths l.i)

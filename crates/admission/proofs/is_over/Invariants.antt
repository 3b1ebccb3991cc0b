-- `is_over` meets its contract. The loop's invariant: the lengths passed are within the limit, and the sum is theirs. Assumes nothing.
use Rattle.std.proofs.Common.{◌≡◌, ◌+◌, ◌*◌, ◌≤◌, drop}
use Rattle.sizes.specs.Sizes.{longest}
use Rattle.dock.specs.Start.{sum_of, some_over}
use Rattle.admission.proofs.is_over.Given as goal

abbrev pub invariant-loop-n : goal.invariant-loop-n
invariant-loop-n l = record {
  within : l.sum ≤ longest * l.n-index;
  rest : l.sum + sum_of (drop l.n-index l.lengths) ≡ sum_of l.lengths;
  over : some_over (drop l.n-index l.lengths) ≡ some_over l.lengths;
}

-- `Occupancy::is_held` meets its contract: `(bits >> i) & 1` is bit i. Assumes nothing.
use mathlib.Core.Path.{ap}
use Prim.Native.Nat.{ℕ}
use lib.Dec.{eqb}
use Rattle.mask.specs.Occupancy.{held}
use Rattle.mask.proofs.BitLaws.{reads_bit}
use Rattle.mask.proofs.Occupancy.is_held.Goals as goal

pub returns : goal.returns
unfolding held
returns c = ap (λ (b : ℕ). eqb b 1) (reads_bit c.args.self.bits c.args.i)

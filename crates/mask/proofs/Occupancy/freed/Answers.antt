-- `Occupancy::freed` meets its contract: the law of `bits & !(1 << i)`. Assumes nothing.
use native.Mathlib.Omega.{arith}
use Rattle.mask.specs.Occupancy.{freed}
use Rattle.mask.proofs.ComputeLaws.{and_clears}
use Rattle.mask.proofs.Occupancy.freed.Goals as goal

pub returns : goal.returns
unfolding freed
returns c = rw (and_clears c.args.self.bits c.args.i c.requires (omega arith))

-- `Occupancy::taken` meets its contract: the law of `bits | (1 << i)`. Assumes nothing.
use native.Mathlib.Omega.{arith}
use Rattle.mask.specs.Occupancy.{taken}
use Rattle.mask.proofs.ComputeLaws.{or_sets}
use Rattle.mask.proofs.Occupancy.taken.Goals as goal

pub returns : goal.returns
unfolding taken
returns c = rw (or_sets c.args.self.bits c.args.i c.requires (omega arith))

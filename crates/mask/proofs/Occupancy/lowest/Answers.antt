-- `Occupancy::lowest` meets its contract: the count of trailing zeros has the property that only the definition's answer has. Assumes nothing.
use Rattle.std.specs.Prelude.{Some, None}
use mathlib.Core.Path.{refl}
use native.Mathlib.Omega.{arith}
use Rattle.mask.specs.Occupancy.{lowest}
use Rattle.mask.proofs.ClearLaws.{mask_at, mask_full}
use Rattle.mask.proofs.ComputeLaws.{lowest_computed}
use Rattle.mask.proofs.Occupancy.lowest.Goals as goal

-- the count is below 64: it is the lowest clear bit
pub returns-then-i-lt64 : goal.returns-then-i-lt64
unfolding lowest
returns-then-i-lt64 c =
    lowest_computed c.args.self.bits (Some _) (mask_at 64 c.args.self.bits (omega arith) _ refl (omega arith))

-- the count is 64: all bits are set
pub returns-else-i-lt64 : goal.returns-else-i-lt64
unfolding lowest
returns-else-i-lt64 c =
    lowest_computed c.args.self.bits None (mask_full 64 c.args.self.bits (omega arith) (omega arith))

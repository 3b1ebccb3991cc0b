-- A making that is lent a wrong number of words for the endpoint answers as one that is lent tables of a wrong size: 13 outside the limits, else 1.
-- Assumes nothing.
use Prim.Native.Nat.{ℕ}
use mathlib.Core.Bool.{Bool, true, false, not}
use mathlib.Core.List.{[], ◌∷◌}
use mathlib.Core.Path.{◌≡◌, refl}
use Rattle.base.specs.First.{pick, first}
use Rattle.dock.specs.declared.Identity.{Identity}
use Rattle.dock.specs.declared.Shape.{Shape}
use Rattle.dock.specs.Limits.{limits_hold}
use Rattle.dock.specs.Make.{sized, make_tests, make_no}
use Rattle.saved.specs.Settle.{unmade}

pub unmade_as_misfit : (ring finished records packets : ℕ) (shape : Shape) (who : Identity)
    → sized shape.slots ring finished records packets ≡ false
    → unmade shape who ≡ make_no ring finished records packets shape who
unfolding unmade make_no make_tests
unmade_as_misfit ring finished records packets shape who misfit = rw misfit (by (limits_hold shape who))
  where
    by : (b : Bool) → pick b 1 13 ≡ first ((not b, 13) ∷ (true, 1) ∷ [])
    by true = refl
    by false = refl

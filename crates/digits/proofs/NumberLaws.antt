-- A number with one digit more, and its limit. Assumes nothing.
use Prim.Native.Nat.{ℕ, ◌+◌, ◌-◌, ◌*◌, ◌/◌, ◌≤◌, ◌<◌}
use mathlib.Core.Bool.{true}
use mathlib.Core.Path.{◌≡◌}
use native.Mathlib.Nat.{le-div_iff_mul-le}
use native.Mathlib.Omega.{arith}
use lib.Dec.{leb}
use Rattle.base.proofs.Decide.{Decides, by_leb, by_ltb, both, reworded, same_test}
use Rattle.digits.specs.Digits.{fits}

module _ (value base digit most : ℕ) where
  -- The digit is one of the base, and the number is not above the largest.
  pub by_fits : Decides (fits value base digit most) ((digit < base) × (value * base + digit ≤ most))
  unfolding fits
  by_fits = both (by_ltb digit base) (by_leb (value * base + digit) most)

  pub fits_within : fits value base digit most ≡ true → value * base + digit ≤ most
  fits_within e = (by_fits.so e).1

  -- The same without a product: for a digit that is not above the largest.
  pub divided : digit < base → digit ≤ most → leb value ((most - digit) / base) ≡ fits value base digit most
  divided small least =
      let some : 0 < base = omega arith in
      let same = le-div_iff_mul-le {k = base} {x = value} {y = most - digit} some in
      same_test
      (reworded
      (λ h. (small, let k : value * base ≤ most - digit = same.0 h in omega arith))
      (λ h. let k : value * base ≤ most - digit = omega (arith, h.1) in same.1 k)
      (by_leb value ((most - digit) / base)))
      by_fits

-- `fits` meets its contract, without a product that could be too large. Assumes nothing.
use native.Mathlib.Omega.{arith}
use Rattle.base.proofs.Decide.{if_not}
use Rattle.digits.proofs.NumberLaws.{by_fits, divided}
use Rattle.digits.proofs.fits.Goals as goal

pub returns-then-digit-most : goal.returns-then-digit-most
returns-then-digit-most c =
    let a = c.args in
    let in_reach = c.if-digit-most.true in
    divided a.value a.base a.digit a.most in_reach.0 in_reach.1

pub returns-else-digit-most : goal.returns-else-digit-most
returns-else-digit-most c =
    let a = c.args in
    let none = if_not (by_fits a.value a.base a.digit a.most) (λ h. omega (arith, c.if-digit-most.either)) in
    grind (arith, none)

-- `retiring::retire_all` meets its contract. The invariant is the definition at r. Assumes nothing.
use mathlib.Core.Path.{◌≡◌, refl, ◌∙◌}
use native.Mathlib.Omega.{arith}
use Rattle.sizes.specs.Sizes.{record_count}
use Rattle.retiring.proofs.RetireLaws.{retired_none, retired_more}
use Rattle.retiring.proofs.retire_all.Goals as goal

pub loop-r-init : goal.loop-r-init
loop-r-init c = let a = c.args in (refl, retired_none a.occupancy a.outstanding a.records.now)

pub retire_one-out-requires : goal.retire_one-out-requires
retire_one-out-requires c =
    (c.loop-r.invariant.0 ∙ c.requires, omega arith)

pub loop-r-preserved : goal.loop-r-preserved
loop-r-preserved c =
    let a = c.args in
    let l = c.loop-r in (
      c.retire_one-out.auto.records ∙ l.invariant.0,
      c.retire_one-out.ensures ∙ retired_more a.occupancy a.outstanding a.records.now l.r l.invariant.1,
    )

pub returns : goal.returns
returns c =
    let all : c.loop-r.r ≡ record_count = omega arith in
    rw all at c.loop-r.invariant.1

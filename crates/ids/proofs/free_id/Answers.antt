-- `ids::free_id` meets its contract. Assumes nothing.
-- The outer loop: the candidate is one that the search of the definition reaches (`Trying`); the measure is the steps that are left of 64.
-- The inner loop: no record below r holds the candidate.
use mathlib.Core.Path.{◌≡◌, sym, ap, ◌∙◌}
use Prim.Native.Nat.{ℕ, suc, ◌-◌}
use native.Mathlib.Omega.{arith}
use Rattle.mask.specs.Occupancy.{held}
use Rattle.sizes.specs.Sizes.{record_count}
use Rattle.ids.specs.Free.{id_at, held_by, taken}
use Rattle.ids.proofs.AnyLaws.{any_none, by_held}
use Rattle.ids.proofs.SearchLaws.{dist, Trying, trying_start, trying_next, trying_done}
use Rattle.ids.proofs.free_id.Goals as goal
use Rattle.ids.proofs.free_id.Goals.{After-after-candidate}

-- the candidate is the id of record r, which is held: the next one is tried, with one step less
next : (c : After-after-candidate)
    → let left : ℕ → ℕ = λ x. record_count - dist c.args.next x in
    Trying record_count (held c.args.occupancy) (id_at c.args.records.now) c.args.next c.after-candidate.result × (left c.ids.candidate ≡ suc (left c.after-candidate.result))
next c =
    let a = c.args in
    let at = c.loop-r in
    let here = (by_held (held a.occupancy) (id_at a.records.now) at.candidate at.r).so (sym c.has_id.ensures ∙ c.if-has_id.true) in
    rw (c.after-candidate.ensures, at.invariant.0)
    (trying_next record_count (held a.occupancy) (id_at a.records.now) a.next (omega arith) c.requires.1 c.ranges.next.fits c.ids.candidate at.r c.ids.invariant
    (omega arith) here.0 (here.1 ∙ at.invariant.0))

pub ids-init : goal.ids-init
ids-init c =
    trying_start record_count (held c.args.occupancy) (id_at c.args.records.now) c.args.next (omega arith) c.requires.1 c.ranges.next.fits

pub ids-smaller : goal.ids-smaller
ids-smaller c = omega (arith, (next c).1)

pub ids-preserved : goal.ids-preserved
ids-preserved c = (next c).0

-- the inner loop ended: no record holds the candidate
pub returns : goal.returns
returns c =
    let a = c.args in
    let t = c.loop-r in
    let free = any_none record_count (held_by (held a.occupancy) (id_at a.records.now) t.candidate) (λ k l. t.invariant.1 k (omega arith)) in
    let tried : Trying record_count (held a.occupancy) (id_at a.records.now) a.next t.candidate = rw t.invariant.0 c.ids.invariant in
    rw c.after.ensures
    (ap taken (trying_done record_count (held a.occupancy) (id_at a.records.now) a.next (omega arith) c.requires.1 c.ranges.next.fits t.candidate tried free))

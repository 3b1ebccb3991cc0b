-- `ids::free_id` meets its contract. Assumes nothing.
-- The outer loop: the candidate is one that the search of the definition reaches (`Trying`); the measure is the steps that are left of 64.
-- The inner loop: no record below r holds the candidate.
use mathlib.Core.Path.{◌≡◌}
use mathlib.Core.Bool.{false}
use Prim.Native.Nat.{ℕ, ◌-◌, ◌<◌}
use Rattle.mask.specs.Occupancy.{held}
use Rattle.sizes.specs.Sizes.{record_count}
use Rattle.ids.specs.Free.{id_at, held_by}
use Rattle.ids.proofs.SearchLaws.{dist, Trying}
use Rattle.ids.proofs.free_id.Given as goal

abbrev pub invariant-loop-r : goal.invariant-loop-r
invariant-loop-r l =
    (l.candidate ≡ l.initial.candidate) × ((k : ℕ) → k < l.r → held_by (held l.occupancy) (id_at l.records) l.candidate k ≡ false)

abbrev pub invariant-ids : goal.invariant-ids
invariant-ids l =
    Trying record_count (held l.occupancy) (id_at l.records) l.next l.candidate

abbrev pub decreases-ids : goal.decreases-ids
decreases-ids l =
    record_count - dist l.next l.candidate

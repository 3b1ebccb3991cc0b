-- `ids::find_id` meets its contract: the library's `find`, over the records. Assumes nothing.
use Rattle.std.proofs.Common.{rules, ◌≡◌, ℕ, Bool, true, false}
use Rattle.std.proofs.lemmas.Iterator.{first_from_Range}
use Rattle.mask.specs.Occupancy.{held}
use Rattle.sizes.specs.Sizes.{record_count}
use Rattle.ids.specs.Free.{held_by, id_at}
use Rattle.ids.proofs.LookupLaws.{find_over}
use Rattle.ids.proofs.find_id.Goals as goal

pub returns : goal.returns
returns c =
    let a = c.args in
    let test : ℕ → Bool = held_by (held a.occupancy) (id_at a.records.now) a.id in
    find_over record_count (held a.occupancy) (id_at a.records.now) a.id _
    (first_from_Range _ _ _ _ (λ i. test i ≡ true) (λ i. test i ≡ false) c.find.ensures.ran (λ x q k. search rules) (λ x q k. search rules))

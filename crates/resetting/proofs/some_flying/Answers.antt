-- `resetting::some_flying` meets its contract: the library's `any`, over the records. Assumes nothing.
use Rattle.std.proofs.Common.{rules, ◌≡◌, true, false, refl}
use Rattle.std.proofs.lemmas.Iterator.{cases_from_any, YieldsList-from_range}
use Rattle.sizes.specs.Sizes.{record_count}
use Rattle.ids.proofs.AnyLaws.{any_over}
use Rattle.dock.specs.RowOne.{flies}
use Rattle.resetting.proofs.some_flying.Goals as goal

pub returns : goal.returns
returns c =
    let flying = flies c.args.records.now c.args.occupancy in
    any_over record_count flying _
    (cases_from_any _ _ _ (λ i. flying i ≡ true) (λ i. flying i ≡ false) c.any.ensures.ran (YieldsList-from_range 0 record_count record_count refl refl) (λ x q k. search rules) (λ x q k. search rules))

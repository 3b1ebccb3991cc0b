-- `reclaiming::reclaim_request` meets its contract: refused with the tables as they are, or the record that is found is reclaimed. Assumes nothing.
use Rattle.std.specs.Prelude.{ℕ, Option}
use mathlib.Core.Bool.{false}
use mathlib.Core.Path.{sym, ap, ◌∙◌, ◌≡◌}
use borrow.Author.Tests.{ne_eqb}
use lib.ListN.{length}
use Rattle.dock.specs.Reclaim.{bad_record, reclaim_no, reclaim_found, reclaim}
use Rattle.dock.proofs.NumberLaws.{declined, passed}
use Rattle.dock.specs.declared.After.{After}
use Rattle.dock.specs.declared.Reclaimed.{Reclaimed}
use Rattle.ids.specs.Lookup.{find_in}
use Rattle.reclaiming.specs.Parts.{reclaim_at}
use Rattle.refusal.proofs.CallLaws.{found_within, bad_found, reclaimable}
use Rattle.checks.specs.Shown.{Shown}
use Rattle.sizes.specs.Sizes.{records_size, packets_size}
use Rattle.reclaiming.proofs.reclaim_request.Goals as goal

pub returns-in-Err : goal.returns-in-Err
unfolding reclaim
returns-in-Err c =
    let a = c.args in
    let d = declined (reclaim_no a.e (length a.finished.now) a.records.now (length a.packets.now) a.id) c.in-Err.ensures in
    simp (ne_eqb _ _ d.0, d.1)

pub find_id-found-requires : goal.find_id-found-requires
find_id-found-requires c =
    let a = c.args in
    (reclaimable _ _ _ _ _ (passed (reclaim_no a.e (length a.finished.now) a.records.now (length a.packets.now) a.id) c.in_default.ensures)).1

pub reclaim_at-requires : goal.reclaim_at-requires
reclaim_at-requires c =
    let a = c.args in
    let told = (sym c.in-Some.is ∙ c.find_id-found.ensures) in
    let tests : (Shown a.e.shape.slots (length a.finished.now) 0 0)
    × (length a.records.now ≡ records_size)
    × (length a.packets.now ≡ packets_size)
    × (bad_record a.e a.records.now (find_in a.records.now a.e.account.occupancy a.id) ≡ false) =
    reclaimable _ _ _ _ _ (passed (reclaim_no a.e (length a.finished.now) a.records.now (length a.packets.now) a.id) c.in_default.ensures) in
    let s = tests.0 in (
      record {
        least = s.least;
        most = s.most;
        table = s.table;
        place = s.place;
        held = found_within a.records.now a.e.account.occupancy a.id _ told;
      },
      tests.1,
      tests.2,
      bad_found a.e a.records.now _ ∙ ap (bad_record a.e a.records.now) told ∙ tests.3,
    )

pub returns-in-None : goal.returns-in-None
unfolding reclaim
returns-in-None c =
    let a = c.args in
    simp (passed (reclaim_no a.e (length a.finished.now) a.records.now (length a.packets.now) a.id) c.in_default.ensures)
    (ap (λ (x : After Reclaimed). (x, a.records.now, a.packets.now)) c.unfinished.ensures
    ∙ ap (λ (x : Option ℕ). reclaim_found x a.e a.finished.now a.records.now a.packets.now) (sym c.in-None.is ∙ c.find_id-found.ensures))

pub returns-in-Some : goal.returns-in-Some
unfolding reclaim reclaim_at
returns-in-Some c =
    let a = c.args in
    simp (passed (reclaim_no a.e (length a.finished.now) a.records.now (length a.packets.now) a.id) c.in_default.ensures)
    (c.reclaim_at.ensures
    ∙ ap (λ (x : Option ℕ). reclaim_found x a.e a.finished.now a.records.now a.packets.now) (sym c.in-Some.is ∙ c.find_id-found.ensures))

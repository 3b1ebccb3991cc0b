-- `next_store` meets its contract: one check, one act. Assumes nothing.
use borrow.Author.Tests.{ne_eqb}
use lib.ListN.{length}
use Rattle.dock.specs.NextStore.{store_no, store}
use Rattle.dock.proofs.NumberLaws.{declined, passed}
use Rattle.storing.specs.Stored.{stored_with, stored_by}
use Rattle.storing.proofs.StoreLaws.{ready}
use Rattle.building.proofs.store.next_store.Goals as goal

pub returns-in-Err : goal.returns-in-Err
unfolding store
returns-in-Err c =
    let a = c.args in
    let d = declined (store_no a.e (length a.ring.now) (length a.finished.now) a.records.now (length a.packets.now)) c.in-Err.ensures in
    simp (ne_eqb _ _ d.0, d.1)

pub store_one-requires : goal.store_one-requires
store_one-requires c =
    let a = c.args in
    ready _ _ _ _ _ (passed (store_no a.e (length a.ring.now) (length a.finished.now) a.records.now (length a.packets.now)) c.in_default.ensures)

pub returns : goal.returns
unfolding store stored_with stored_by
returns c =
    let a = c.args in
    simp (passed (store_no a.e (length a.ring.now) (length a.finished.now) a.records.now (length a.packets.now)) c.in_default.ensures) c.store_one.ensures

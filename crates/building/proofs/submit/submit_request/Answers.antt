-- `submit_request` meets its contract: the refusals, what the start takes, and the stores. Assumes nothing.
use lib.ListN.{length}
use Rattle.dock.specs.Submit.{submit_no}
use Rattle.dock.proofs.NumberLaws.{declined, passed}
use Rattle.building.proofs.SubmitLaws.{refused, takes, sendable, whole}
use Rattle.building.proofs.submit.submit_request.Goals as goal

pub returns-in-Err : goal.returns-in-Err
returns-in-Err c =
    let a = c.args in
    let d = declined (submit_no a.e (length a.ring.now) (length a.finished.now) a.records.now (length a.packets.now) a.request a.lengths.now) c.in-Err.ensures in
    simp d.1 (refused a.e a.ring.now a.finished.now a.records.now a.packets.now a.request a.lengths.now d.0)

pub take-begun-requires : goal.take-begun-requires
take-begun-requires c =
    let a = c.args in
    let t = takes a.e a.ring.now a.finished.now a.records.now a.packets.now a.request a.lengths.now (passed (submit_no a.e (length a.ring.now) (length a.finished.now) a.records.now (length a.packets.now) a.request a.lengths.now) c.in_default.ensures) in
    (t.0, t.2, t.3)

pub send-requires : goal.send-requires
send-requires c =
    let a = c.args in
    sendable a.e a.ring.now a.finished.now a.records.now a.packets.now a.request a.lengths.now (passed (submit_no a.e (length a.ring.now) (length a.finished.now) a.records.now (length a.packets.now) a.request a.lengths.now) c.in_default.ensures) c.take-begun.ensures

pub returns : goal.returns
returns c =
    let a = c.args in
    whole a.e a.ring.now a.finished.now a.records.now a.packets.now a.request a.lengths.now (passed (submit_no a.e (length a.ring.now) (length a.finished.now) a.records.now (length a.packets.now) a.request a.lengths.now) c.in_default.ensures) c.take-begun.ensures c.send.ensures

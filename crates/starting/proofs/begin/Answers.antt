-- `begin` meets its contract: what is taken, and the packets. Assumes nothing.
use Rattle.starting.proofs.TakenLaws.{begun_by_lem}
use Rattle.starting.proofs.begin.Goals as goal

pub returns : goal.returns
returns c =
    let a = c.args in
    begun_by_lem a.e a.records.now a.packets.now a.request a.lengths.now c.take-begun.ensures c.record_taken-number.ensures.0 c.write_packets.ensures

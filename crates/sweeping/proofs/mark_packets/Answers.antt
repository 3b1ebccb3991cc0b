-- `mark_packets` meets its contract: the loop makes the turns of `walked`, one by one. Assumes nothing.
use Rattle.std.proofs.Common.{arith}
use Rattle.sweeping.proofs.WalkedLaws.{walks_begun, walks_on, walks_ended, walks_fewer}
use Rattle.sweeping.proofs.mark_packets.Goals as goal

pub loop-s-init : goal.loop-s-init
loop-s-init c = walks_begun _ _ _ c.begin-s.ensures

pub turn-t-requires : goal.turn-t-requires
turn-t-requires c = (c.loop-s-test.true, (c.loop-s.invariant.fine c.loop-s-test.true).0)

pub loop-s-smaller : goal.loop-s-smaller
loop-s-smaller c = walks_fewer c.loop-s.invariant c.loop-s-test.true c.turn-t.ensures

pub loop-s-preserved : goal.loop-s-preserved
loop-s-preserved c = walks_on c.loop-s.invariant c.loop-s-test.true c.turn-t.ensures

pub returns : goal.returns
returns c = walks_ended c.loop-s.invariant (omega arith)

-- The loop's invariant: `Walks`, from the packets as they were lent. The measure is the turns that are left. Assumes nothing.
use Rattle.marking.proofs.WalkLaws.{left_turns}
use Rattle.sweeping.proofs.WalkedLaws.{Walks}
use Rattle.sweeping.proofs.mark_packets.Given as goal

abbrev pub invariant-loop-s : goal.invariant-loop-s
invariant-loop-s l = Walks l.fn.packets l.finished l.fn.b l.packets l.s

abbrev pub decreases-loop-s : goal.decreases-loop-s
decreases-loop-s l = left_turns l.s

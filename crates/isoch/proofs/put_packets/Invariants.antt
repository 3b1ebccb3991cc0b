-- `put_packets` meets its contract. The loop's invariant: the packets passed are written and stored, and what is left is what was to be done. Assumes
-- nothing.
use Rattle.std.proofs.Common.{◌≡◌, ◌+◌, ◌<◌, ◌≤◌, length}
use lib.Seq.{paste}
use Rattle.bursts.specs.Bursts.{bursts_of}
use Rattle.isoch.specs.Packed.{all_put}
use Rattle.isoch.proofs.PacketLaws.{left_from}
use Rattle.isoch.proofs.put_packets.Given as goal

abbrev pub invariant-loop-i : goal.invariant-loop-i
invariant-loop-i l =
    (l.i ≤ length l.sizes)
    × (length l.ring ≡ length l.initial.ring)
    × (length l.finished ≡ length l.initial.finished)
    × (l.packets ≡ paste l.initial.packets l.start l.sizes l.i)
    × (l.at.at.place + 1 < l.plan.shape.slots)
    × (l.bursts ≡ bursts_of l.size l.plan.periodic.packet l.plan.periodic.burst)
    × (left_from l.plan.shape l.plan.periodic l.plan.incoming l.sizes l.i l.at l.ring l.finished ≡ all_put l.plan.shape l.plan.periodic l.plan.incoming l.sizes l.initial.at l.initial.ring l.initial.finished)

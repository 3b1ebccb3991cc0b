-- `put_packets` meets its contract. The loop's invariant: the packets passed are written and stored, and what is left is what was to be done. Assumes
-- nothing.
use Rattle.std.proofs.Common.{◌≡◌, ℕ, length, ap, ◌∙◌, arith}
use lib.Seq.{paste}
use Rattle.requests.proofs.LengthLaws.{copied}
use Rattle.isoch.proofs.PacketLaws.{packet_next, packets_done}
use Rattle.isoch.proofs.put_packets.Goals as goal

pub loop-i-preserved : goal.loop-i-preserved
loop-i-preserved c =
    let a = c.args in
    let l = c.loop-i in
    let below = c.loop-i-test.true in (
      omega arith,
      c.put_packet-at.auto.ring ∙ l.invariant.1,
      c.put_packet-at.auto.finished ∙ l.invariant.2,
      copied a.packets.now a.sizes.now l.packets a.start l.i c.requires.1 l.invariant.3 (omega arith),
      c.put_packet-at.ensures.1,
      c.bursts_again-bursts.ensures,
      packet_next a.plan.shape a.plan.periodic a.plan.incoming a.sizes.now l.i l.at l.ring l.finished (omega arith) c.put_packet-at.ensures.0 ∙ l.invariant.6,
    )

pub returns : goal.returns
returns c =
    let a = c.args in
    let l = c.loop-i in
    let end : l.i ≡ length a.sizes.now = omega arith in (
      packets_done a.plan.shape a.plan.periodic a.plan.incoming a.sizes.now l.i l.at l.ring l.finished (omega arith) ∙ l.invariant.6,
      l.invariant.3 ∙ ap (λ (n : ℕ). paste a.packets.now a.start a.sizes.now n) end,
    )

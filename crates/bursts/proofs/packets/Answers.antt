-- `bursts::packets` meets its contract: one packet with no division, or by one. Assumes nothing.
use mathlib.Core.Logic.{⊎_elim}
use mathlib.Core.Path.{sym, ◌∙◌}
use native.Mathlib.Omega.{arith}
use Rattle.bursts.proofs.BurstLaws.{one_packet, no_size, packets_up, packets_some}
use Rattle.bursts.proofs.packets.Goals as goal

pub returns-then-length-packet : goal.returns-then-length-packet
returns-then-length-packet c =
    let a = c.args in
    (⊎_elim (λ h. sym (one_packet a.length a.packet (omega arith))) (λ h. sym (no_size a.length a.packet h.1)) c.then-length-packet.either, omega arith)

pub returns : goal.returns
returns c =
    let a = c.args in
    let up = packets_up a.length a.packet (omega arith) (omega arith) in
    let some = packets_some a.length a.packet in
    (c.div_ceil.ensures ∙ sym up, omega (arith, c.div_ceil.ensures))

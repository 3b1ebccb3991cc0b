-- `bursts::bursts_of` meets its contract: packets that fit in one burst have no other before it, all others one division for both counts. Assumes nothing.
use mathlib.Core.Path.{sym}
use native.Mathlib.Omega.{arith}
use Rattle.bursts.proofs.BurstLaws.{bursts_are, one_burst}
use Rattle.bursts.proofs.bursts_of.Goals as goal

pub returns-then-all-each : goal.returns-then-all-each
returns-then-all-each c =
    let a = c.args in
    let all = c.packets-all.ensures.0 in
    simp (c.limited.ensures, all) (sym (one_burst a.length a.packet a.burst (omega arith)))

pub returns : goal.returns
returns c =
    let a = c.args in
    let all = c.packets-all.ensures.0 in
    simp (c.limited-2.ensures, all) (sym (bursts_are a.length a.packet a.burst))

-- `copy_lengths` meets its contract. The loop's invariant: the lengths passed are copied. Assumes nothing.
use Rattle.std.proofs.Common.{◌≡◌, ℕ, length, ap, ◌∙◌, arith}
use lib.Seq.{paste}
use Rattle.requests.proofs.LengthLaws.{copied}
use Rattle.starting.proofs.copy_lengths.Goals as goal

pub loop-i-preserved : goal.loop-i-preserved
loop-i-preserved c =
    let a = c.args in
    let l = c.loop-i in
    let below = c.loop-i-test.true in
    (omega arith, copied a.packets.now a.lengths.now l.packets a.start l.i c.requires l.invariant.1 (omega arith))

pub returns : goal.returns
returns c = let end : c.loop-i.i ≡ length c.args.lengths.now = omega arith in c.loop-i.invariant.1 ∙ ap (λ (n : ℕ). paste c.args.packets.now c.args.start c.args.lengths.now n) end

-- `put_lengths` meets its contract. The loop's invariant: the lengths that are left, put behind what stands, give the whole page. Assumes nothing.
use Rattle.std.proofs.Common.{◌≡◌, suc, ◌+◌, ◌-◌, ◌∙◌, arith}
use Rattle.page.proofs.PageLaws.{put_both}
use Rattle.phrases.specs.Text.{lengths_text}
use Rattle.answers.proofs.put_lengths.Goals as goal

pub loop-k-preserved : goal.loop-k-preserved
unfolding lengths_text
loop-k-preserved c =
    let l = c.loop-k in
    let less : c.args.count - l.k ≡ suc (c.args.count - (l.k + 1)) = omega arith in
    (rw (← l.invariant.0, less, c.put_decimal.ensures.page, put_both _ _ _, c.counted.ensures), c.put_decimal.ensures.same_bytes ∙ l.invariant.1)

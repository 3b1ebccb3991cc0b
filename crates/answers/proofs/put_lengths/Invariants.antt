-- `put_lengths` meets its contract. The loop's invariant: the lengths that are left, put behind what stands, give the whole page. Assumes nothing.
use Rattle.std.proofs.Common.{◌≡◌, ◌-◌}
use Rattle.page.specs.Lent.{shown, loan}
use Rattle.page.specs.Page.{put_all}
use Rattle.phrases.specs.Text.{lengths_text}
use Rattle.answers.proofs.put_lengths.Given as goal

abbrev pub invariant-loop-k : goal.invariant-loop-k
invariant-loop-k l =
    (put_all (shown l.page) (lengths_text (l.count - l.k) l.packets l.number l.k) ≡ put_all (shown l.initial.page) (lengths_text l.count l.packets l.number 0))
    × (loan l.page ≡ loan l.initial.page)

-- `put_text` meets its contract. The loop's invariant: what is left of the text, put behind what stands, gives the whole page. Assumes nothing.
use Rattle.std.proofs.Common.{◌≡◌, drop}
use Rattle.page.specs.Lent.{shown, loan}
use Rattle.page.specs.Page.{put_all}
use Rattle.page.proofs.Page.put_text.Given as goal

abbrev pub invariant-loop-b : goal.invariant-loop-b
invariant-loop-b l =
    (put_all (shown l.self) (drop l.b-index l.text) ≡ put_all (shown l.initial.self) l.text) × (loan l.self ≡ loan l.initial.self)

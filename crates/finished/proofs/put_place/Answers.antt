-- `finished::put_place` meets its contract: the part that was lent comes back as the law `lent` says. Assumes nothing.
use native.Mathlib.Omega.{arith}
use Rattle.base.proofs.Lent.{lent}
use Rattle.trb.specs.Layouts.{put_words}
use Rattle.finished.proofs.put_place.Goals as goal

pub returns : goal.returns
unfolding put_words
returns c =
    let a = c.args in
    lent 4 a.finished.now a.place _ (omega arith) c.put_words.ensures

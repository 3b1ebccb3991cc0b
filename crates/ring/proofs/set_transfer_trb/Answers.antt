-- `ring::set_transfer_trb` meets its contract: the part that was lent comes back as the law `lent` says. Assumes nothing.
use native.Mathlib.Omega.{arith}
use Rattle.base.proofs.Lent.{lent}
use Rattle.trb.specs.Layouts.{put_words}
use Rattle.ring.specs.Ring.{store_at}
use Rattle.ring.proofs.set_transfer_trb.Goals as goal

pub returns : goal.returns
unfolding store_at put_words
returns c =
    let a = c.args in
    lent 4 a.ring.now a.place _ (omega arith) c.encode.ensures

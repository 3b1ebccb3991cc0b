-- `ring::enque_transfer` meets its contract: it is the usual store. Assumes nothing.
use Rattle.ring.specs.Ring.{stored_by}
use Rattle.ring.proofs.enque_transfer.Goals as goal

pub returns : goal.returns
unfolding stored_by
returns c = c.stored.ensures

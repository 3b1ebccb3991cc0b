-- `ring::enque_transfer_deferred_cycle` meets its contract: it is a store with the opposite cycle. Assumes nothing.
use Rattle.ring.specs.Ring.{stored_by}
use Rattle.ring.proofs.enque_transfer_deferred_cycle.Goals as goal

pub returns : goal.returns
unfolding stored_by
returns c = c.stored.ensures

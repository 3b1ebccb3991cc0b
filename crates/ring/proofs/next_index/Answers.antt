-- `ring::next_index` meets its contract: it is the link's store. Assumes nothing.
use Rattle.ring.specs.Ring.{stored_by}
use Rattle.ring.proofs.next_index.Goals as goal

pub returns : goal.returns
unfolding stored_by
returns c = c.stored.ensures

-- `ring::enqueue_pointer` meets its contract: the slot's address. Assumes nothing.
use Rattle.ring.proofs.enqueue_pointer.Goals as goal

pub returns : goal.returns
returns c = simp c.trb_bus_addr.ensures

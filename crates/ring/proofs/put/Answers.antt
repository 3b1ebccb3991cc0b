-- `put` meets its contract: the store with its cycle, and the position behind it. Assumes nothing.
use Rattle.ring.specs.Ring.{stored_by}
use Rattle.ring.proofs.put.Goals as goal

pub returns : goal.returns
unfolding stored_by
returns c =
    simp (
      c.position_by.ensures,
      c.set_transfer_trb.ensures,
      c.cycle_by.ensures,
    )

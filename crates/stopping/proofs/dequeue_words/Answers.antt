-- `stopping::dequeue_words` meets its contract: the words at the place's address. Assumes nothing.
use Rattle.dock.specs.Commands.{dequeue_words}
use Rattle.stopping.proofs.dequeue_words.Goals as goal

pub returns : goal.returns
unfolding dequeue_words
returns c = simp (c.words_of.ensures, c.trb_bus_addr.ensures)

-- `stopping::reset_words` meets its contract. Assumes nothing.
use Rattle.dock.specs.Commands.{reset_words}
use Rattle.stopping.proofs.reset_words.Goals as goal

pub returns : goal.returns
unfolding reset_words
returns c = c.words_of.ensures

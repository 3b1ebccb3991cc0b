-- `resetting::begin_no` meets its contract: behind row 1 the records have their size. Assumes nothing.
use borrow.Author.Tests.{not-false}
use mathlib.Core.Path.{sym, ◌∙◌}
use Rattle.dock.proofs.NumberLaws.{unrefused}
use Rattle.checks.proofs.Laws.{fit_with}
use Rattle.resetting.proofs.begin_no.Goals as goal

pub is_occupied-requires : goal.is_occupied-requires
is_occupied-requires c = (fit_with _ _ (sym c.fits_with.ensures ∙ not-false _ (unrefused _ _ c.in_ok-refuse.ensures))).size

-- `refusal::cancel_no` meets its contract: behind row 1 the records have their size. Assumes nothing.
use borrow.Author.Tests.{not-false}
use mathlib.Core.Path.{sym, ◌∙◌}
use Rattle.dock.proofs.NumberLaws.{unrefused}
use Rattle.checks.proofs.Laws.{fit_with}
use Rattle.refusal.proofs.cancel_no.Goals as goal

pub is_grounded-requires : goal.is_grounded-requires
is_grounded-requires c = (fit_with _ _ (sym c.fits_with.ensures ∙ not-false _ (unrefused _ _ c.in_ok-refuse.ensures))).size

-- `checks::fits_with` meets its contract: where the endpoint fits, its ring has slots. Assumes nothing.
use mathlib.Core.Path.{sym, ◌∙◌}
use native.Mathlib.Omega.{arith}
use Rattle.checks.proofs.Laws.{fit}
use Rattle.checks.proofs.fits_with.Goals as goal

pub strays-requires : goal.strays-requires
strays-requires c =
    let t = c.if-records-eq-RECORDS_SIZE.true in
    let f = fit c.args.e (sym c.fits.ensures ∙ t.0) in
    (t.1, omega arith)

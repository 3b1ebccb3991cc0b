-- `stopping::resume_words` meets its contract. Assumes nothing.
use Rattle.std.proofs.lemmas.Result.{err_from_is_err_and}
use borrow.Author.Tests.{eq-eqb, ne_eqb}
use Rattle.dock.specs.Configure.{plain_no}
use Rattle.dock.specs.Commands.{resume}
use Rattle.dock.proofs.NumberLaws.{declined, passed}
use Rattle.checks.proofs.StandLaws.{plain_fits, place_address}
use Rattle.stopping.proofs.resume_words.Goals as goal

pub returns-in_err-plain_no : goal.returns-in_err-plain_no
unfolding resume
returns-in_err-plain_no c =
    let p = err_from_is_err_and c.from_residual.result c.from_residual.ensures.1 in
    let d = declined (plain_no c.args.e) c.in_err-plain_no.ensures in
    simp (p.1, p.2, ne_eqb _ _ d.0, d.1)

pub dequeue_words-requires : goal.dequeue_words-requires
dequeue_words-requires c =
    let e = c.args.e in
    place_address e (plain_fits e (passed (plain_no e) c.in_ok-plain_no.ensures))

pub returns : goal.returns
unfolding resume
returns c = simp (eq-eqb _ _ (passed (plain_no c.args.e) c.in_ok-plain_no.ensures), c.dequeue_words.ensures)

-- `start_request` meets its contract: one check, one act, one answer. Assumes nothing.
use Rattle.std.specs.Prelude.{⊤}
use mathlib.Core.Path.{ap}
use borrow.Author.Tests.{ne_eqb}
use Prim.Native.Nat.{ℕ}
use mathlib.Core.List.{List}
use lib.ListN.{length}
use Rattle.dock.specs.declared.After.{After}
use Rattle.dock.specs.Refusals.{done}
use Rattle.dock.specs.declared.Endpoint.{Endpoint}
use Rattle.dock.specs.Start.{start_no, start}
use Rattle.dock.proofs.NumberLaws.{declined, passed}
use Rattle.starting.specs.Taken.{begun_with}
use Rattle.admission.proofs.StartLaws.{admitted}
use Rattle.building.proofs.start.start_request.Goals as goal

-- What the call makes of what the act leaves.
abbrev answered : Endpoint × List ℕ × List ℕ → After ⊤ × List ℕ × List ℕ
answered x = (record { answer = done; endpoint = x.0 }, x.1, x.2)

pub returns-in-Err : goal.returns-in-Err
unfolding start
returns-in-Err c =
    let a = c.args in
    let d = declined (start_no a.e a.records.now (length a.packets.now) a.request a.lengths.now) c.in-Err.ensures in
    simp (ne_eqb _ _ d.0, d.1)

pub begin-requires : goal.begin-requires
begin-requires c =
    let a = c.args in
    admitted _ _ _ _ _ (passed (start_no a.e a.records.now (length a.packets.now) a.request a.lengths.now) c.in_default.ensures)

pub returns : goal.returns
unfolding start begun_with
returns c =
    let a = c.args in
    simp (passed (start_no a.e a.records.now (length a.packets.now) a.request a.lengths.now) c.in_default.ensures)
    (ap answered c.begin.ensures)

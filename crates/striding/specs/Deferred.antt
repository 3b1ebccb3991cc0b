-- One TRB with the current cycle, and a deferred TD.
use Rattle.std.specs.Prelude.{ℕ, Bool, true, false, List, eqb}
use Rattle.base.specs.First.{pick}
use Rattle.trb.specs.declared.Trb.{Trb}
use Rattle.ring.specs.Ring.{ring_by}
use Rattle.ring.specs.declared.Manner.TheVariants.{Onward, Again}
use Rattle.ring.specs.declared.Position.{Position}
use Rattle.records.specs.declared.Record.{Record}
use Rattle.dock.specs.declared.Shape.{Shape}
use Rattle.dock.specs.Trbs.{data_trb, status_trb}
use Rattle.trbs.specs.Trbs.{first_of}
use Rattle.striding.specs.Stride.{put_trb}

abbrev pub put_same : Shape → Bool → Position → Trb → List ℕ → List ℕ → Position × List ℕ × List ℕ
put_same shape chain p trb ring finished = put_trb shape chain p trb (Onward false) ring finished

-- The rest of a control TD: data where there is any, then status.
unfoldable pub stages_put : Shape → Bool → Record → Position × List ℕ × List ℕ → Position × List ℕ × List ℕ
stages_put shape chain v s =
    let d = pick (eqb v.length 0) s (put_same shape chain s.0 (data_trb v) s.1 s.2) in put_same shape chain d.0 (status_trb v) d.1 d.2

-- "A control TD stores its setup with the opposite cycle, the rest as usual, then the setup again with the right one."
unfoldable pub deferred_put : Shape → Bool → Position → Record → List ℕ → List ℕ → Position × List ℕ × List ℕ
deferred_put shape chain p v ring finished =
    let s = stages_put shape chain v (put_trb shape chain p (first_of v) (Onward true) ring finished) in
    (s.0, ring_by Again s.1 p (first_of v), s.2)

-- Retiring all requests after a stop (`retire_all_after_stop`): every request in flight becomes stopped, and its TRBs leave outstanding.
use Rattle.std.specs.Prelude.{ℕ, zero, suc, ◌-◌, Bool, not, List, [], ◌∷◌, eqb, ⊤, Err}
use Rattle.base.specs.First.{pick, first}
use Rattle.mask.specs.declared.Occupancy.{Occupancy}
use Rattle.sizes.specs.Sizes.{record_count}
use Rattle.records.specs.States.{stopped}
use Rattle.records.specs.Records.{state_word, record_at, set_word}
use Rattle.dock.specs.declared.After.{After}
use Rattle.dock.specs.Refusals.{refusal, done}
use Rattle.dock.specs.declared.Endpoint.{Endpoint}
use Rattle.dock.specs.RowOne.{flies, fits_with}
use Rattle.dock.specs.State.{with_account}

-- The refusals of a call that is lent the records: 1, then 12.
unfoldable pub record_tests : Endpoint → List ℕ → List (Bool × ℕ)
record_tests e records = (not (fits_with e records), 1) ∷ (e.work.busy, 12) ∷ []

unfoldable pub record_no : Endpoint → List ℕ → ℕ
record_no e records = first (record_tests e records)

-- The records below r, one after the other: outstanding and the table.
unfoldable pub retired_below : ℕ → Occupancy → ℕ → List ℕ → ℕ × List ℕ
retired_below zero occupancy outstanding records = (outstanding, records)
retired_below (suc r) occupancy outstanding records =
    let s = retired_below r occupancy outstanding records in
    pick (flies s.1 occupancy r) (s.0 - (record_at s.1 r).count, set_word s.1 r state_word stopped) s

unfoldable pub retire : Endpoint → List ℕ → After ⊤ × List ℕ
retire e records =
    let s = retired_below record_count e.account.occupancy e.account.outstanding records in
    pick (eqb (record_no e records) 0) (
      record {
        answer = done;
        endpoint = with_account e (record { next = e.account.next; occupancy = e.account.occupancy; outstanding = s.0 });
      },
      s.1,
    )
    (record { answer = Err (refusal (record_no e records)); endpoint = e }, records)

-- Cancelling a request: it is marked, and its completion answers 7. "cancel of an id not in flight" is 6.
use Rattle.std.specs.Prelude.{ℕ, Bool, true, not, List, [], ◌∷◌, eqb, Option, Some, None, Result, ⊤, Err}
use Rattle.base.specs.First.{pick, first}
use Rattle.ids.specs.Lookup.{find_in}
use Rattle.records.specs.States.{state_is, in_flight}
use Rattle.records.specs.Records.{cancelled_word, record_at, set_word}
use Rattle.dock.specs.declared.Endpoint.{Endpoint}
use Rattle.dock.specs.declared.Refusal.{Refusal}
use Rattle.dock.specs.Refusals.{refusal, done}
use Rattle.dock.specs.RowOne.{fits_with}

abbrev pub not_flying : List ℕ → Option ℕ → Bool
not_flying records None = true
not_flying records (Some r) = not (state_is (record_at records r).state in_flight)

unfoldable pub cancel_tests : Endpoint → List ℕ → ℕ → List (Bool × ℕ)
cancel_tests e records id =
    (not (fits_with e records), 1)
    ∷ (e.work.busy, 12)
    ∷ (not_flying records (find_in records e.account.occupancy id), 6)
    ∷ []

unfoldable pub cancel_no : Endpoint → List ℕ → ℕ → ℕ
cancel_no e records id = first (cancel_tests e records id)

abbrev pub marked : List ℕ → Option ℕ → List ℕ
marked records None = records
marked records (Some r) = set_word records r cancelled_word 1

unfoldable pub cancel : Endpoint → List ℕ → ℕ → Result ⊤ Refusal × List ℕ
cancel e records id =
    pick (eqb (cancel_no e records id) 0)
    (done, marked records (find_in records e.account.occupancy id))
    (Err (refusal (cancel_no e records id)), records)

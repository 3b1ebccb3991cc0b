-- Reset, as a begin that returns two command TRBs and an end told whether they worked. Document 01, "What must change shape".
use Rattle.std.specs.Prelude.{ℕ, Bool, true, false, not, ◌&&◌, ◌||◌, List, [], ◌∷◌, eqb, Option, Ok, Some, None, Err, ⊤}
use Rattle.base.specs.First.{pick, first}
use Rattle.sizes.specs.Sizes.{record_count}
use Rattle.ids.specs.Free.{any}
use Rattle.dock.specs.declared.After.{After}
use Rattle.dock.specs.declared.ResetCommands.{ResetCommands}
use Rattle.dock.specs.Refusals.{refusal, done}
use Rattle.dock.specs.declared.Endpoint.{Endpoint}
use Rattle.dock.specs.RowOne.{fits, flies, fits_with}
use Rattle.dock.specs.State.{with_flags}
use Rattle.dock.specs.Commands.{reset_words, dequeue_words}

-- "for reset, requests in flight or outstanding not 0."
unfoldable pub occupied : Endpoint → List ℕ → Bool
occupied e records = any record_count (flies records e.account.occupancy) || not (eqb e.account.outstanding 0)

-- "begin tests requests (2), then is done with none if not halted, then a reset under way (2)."
unfoldable pub begin_tests : Endpoint → List ℕ → List (Bool × ℕ)
begin_tests e records =
    (not (fits_with e records), 1)
    ∷ (e.work.busy, 12)
    ∷ (occupied e records, 2)
    ∷ (e.flags.halted && e.flags.reset, 2)
    ∷ []

unfoldable pub begin_no : Endpoint → List ℕ → ℕ
begin_no e records = first (begin_tests e records)

unfoldable pub begin_reset : Endpoint → List ℕ → After (Option ResetCommands)
begin_reset e records =
    pick (eqb (begin_no e records) 0)
    (pick e.flags.halted
    (record {
      answer = Ok (Some (record { reset = (reset_words e); dequeue = (dequeue_words e) }));
      endpoint = with_flags e (record { halted = true; reset = true });
    })
    (record { answer = Ok None; endpoint = e }))
    (record { answer = Err (refusal (begin_no e records)); endpoint = e })

-- Row 10: "an end of reset with none under way".
unfoldable pub end_tests : Endpoint → List (Bool × ℕ)
end_tests e = (not (fits e), 1) ∷ (e.work.busy, 12) ∷ (not e.flags.reset, 10) ∷ []

unfoldable pub end_no : Endpoint → ℕ
end_no e = first (end_tests e)

-- "An end always clears the reset, and halted if it worked."
unfoldable pub end_reset : Endpoint → Bool → After ⊤
end_reset e worked =
    pick (eqb (end_no e) 0)
    (record { answer = done; endpoint = with_flags e (record { halted = e.flags.halted && not worked; reset = false }) })
    (record { answer = Err (refusal (end_no e)); endpoint = e })

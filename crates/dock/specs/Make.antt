-- Making a ring. Document 01: "Making knows only 13, then 1." "Making zeroes the ring, empties all tables".
use Rattle.std.specs.Prelude.{ℕ, Bool, not, ◌&&◌, List, [], ◌∷◌, eqb, length, replicate, ⊤, Err}
use Rattle.base.specs.First.{pick, first}
use Rattle.dock.specs.declared.After.{After}
use Rattle.dock.specs.Refusals.{refusal, done}
use Rattle.dock.specs.declared.Identity.{Identity}
use Rattle.dock.specs.declared.Shape.{Shape}
use Rattle.sizes.specs.Sizes.{ring_size, records_size, packets_size}
use Rattle.dock.specs.Limits.{limits_hold}
use Rattle.dock.specs.State.{fresh, blank}

-- The tables of a ring of so many slots have their sizes.
unfoldable pub sized : ℕ → ℕ → ℕ → ℕ → ℕ → Bool
sized slots ring finished records packets =
    eqb ring (ring_size slots) && eqb finished (ring_size slots) && eqb records records_size && eqb packets packets_size

unfoldable pub make_tests : ℕ → ℕ → ℕ → ℕ → Shape → Identity → List (Bool × ℕ)
make_tests ring finished records packets shape who =
    (not (limits_hold shape who), 13)
    ∷ (not (sized shape.slots ring finished records packets), 1)
    ∷ []

unfoldable pub make_no : ℕ → ℕ → ℕ → ℕ → Shape → Identity → ℕ
make_no ring finished records packets shape who = first (make_tests ring finished records packets shape who)

-- A list of as many zeros.
abbrev pub zeros : List ℕ → List ℕ
zeros l = replicate (length l) 0

unfoldable pub make : List ℕ → List ℕ → List ℕ → List ℕ → Shape → Identity → After ⊤ × List ℕ × List ℕ × List ℕ × List ℕ
make ring finished records packets shape who =
    let no = make_no (length ring) (length finished) (length records) (length packets) shape who in
    pick (eqb no 0)
    (record { answer = done; endpoint = fresh shape who }, zeros ring, zeros finished, zeros records, zeros packets)
    (record { answer = Err (refusal no); endpoint = blank }, ring, finished, records, packets)

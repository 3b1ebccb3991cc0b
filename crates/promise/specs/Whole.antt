-- Runs whose submissions are whole: a start and its stores, with steps of the controller between them and no other call.
use Rattle.std.specs.Prelude.{ℕ, zero, suc, Bool, true, false, List, ◌≡◌, length}
use Rattle.dock.specs.declared.Identity.{Identity}
use Rattle.dock.specs.Refusals.{done}
use Rattle.dock.specs.declared.Request.{Request}
use Rattle.dock.specs.declared.Shape.{Shape}
use Rattle.dock.specs.Make.{make}
use Rattle.dock.specs.Run.{made_of, starts, stores}
use Rattle.dock.specs.Submit.{most_stores}
use Rattle.promise.specs.Requested.{typed}
use Rattle.promise.specs.Run.{World, Part, setting, opening, filling, aside, outside, part, stepping, Move, calls, hands, steps, act, may, from_making}

-- n stores, and before each as many steps of the controller as `pauses` says.
unfoldable pub storing : ℕ → (ℕ → ℕ) → World → World
storing zero pauses w = w
storing (suc n) pauses w = storing n pauses (act (stepping (pauses n) w) (calls stores))

-- A whole submission: the start, and at least as many stores as it takes. A store with none under way is refused, and changes nothing.
unfoldable pub submitted : World → Request → List ℕ → (ℕ → ℕ) → World
submitted w request lengths pauses = storing (most_stores request (length lengths)) pauses (act w (calls (starts request lengths)))

-- The other moves.
abbrev pub is_aside : Part → Bool
is_aside (setting packet burst interval) = true
is_aside (opening request lengths) = false
is_aside filling = false
is_aside aside = true
is_aside outside = false

abbrev pub between : Move → Bool
between (calls c) = is_aside (part c)
between (hands event nth) = true
between steps = true

pub data WholeRun : World → Type 0 where
  made : (ring finished records packets : List ℕ) (shape : Shape) (who : Identity)
      → (make ring finished records packets shape who).0.answer ≡ done
      → WholeRun (from_making shape who (made_of (make ring finished records packets shape who)))
  and_then : {w : World} → WholeRun w → (m : Move) → between m ≡ true → may w m ≡ true → WholeRun (act w m)
  and_submits : {w : World} → WholeRun w → (request : Request) (lengths : List ℕ) (pauses : ℕ → ℕ) → typed request.what ≡ true
      → WholeRun (submitted w request lengths pauses)

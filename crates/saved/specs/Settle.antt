-- What a call leaves in the words that it was lent: its number is returned, the endpoint's words are those of the endpoint afterwards where the
-- answer changes it, else as they were, and the answer's words are told anew.
use Rattle.std.specs.Prelude.{ℕ, List, ⊤}
use Rattle.base.specs.First.{pick}
use Rattle.dock.specs.declared.After.{After}
use Rattle.dock.specs.declared.Endpoint.{Endpoint}
use Rattle.dock.specs.declared.Identity.{Identity}
use Rattle.dock.specs.declared.Shape.{Shape}
use Rattle.dock.specs.Limits.{limits_hold}
use Rattle.dock.specs.Numbers.{outcome_number}
use Rattle.loaded.specs.State.{kept}
use Rattle.told.specs.Answer.{spoken}
use Rattle.told.specs.declared.answer.Told.{Told}

-- Of a call that tells its number only: number and endpoint.
unfoldable pub numbered : List ℕ → After ⊤ → ℕ × List ℕ
numbered state c = ((outcome_number c.answer).0, kept (outcome_number c.answer).0 state c.endpoint)

-- Of a call that has values to tell: number, endpoint and answer.
unfoldable pub told : List ℕ → Told → Endpoint → ℕ × List ℕ × List ℕ
told state t e = (t.number, kept t.number state e, (spoken t).1)

-- Of a making that has no room for the endpoint, words of a wrong length: "Making knows only 13, then 1."
unfoldable pub unmade : Shape → Identity → ℕ
unmade shape who = pick (limits_hold shape who) 1 13

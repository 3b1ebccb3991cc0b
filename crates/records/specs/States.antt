-- The states of a held record, and their words. Whatever a state word says is in flight, stopped, or neither; the record has the
-- word.
use Rattle.std.specs.Prelude.{ℕ, Bool, Option, Some, None, eqb}
use Rattle.base.specs.First.{pick}
use Rattle.records.specs.declared.State.{State}
use Rattle.records.specs.declared.State.TheVariants.{InFlight, Stopped}

abbrev pub state_number : State → ℕ
state_number InFlight = 1
state_number Stopped = 2

-- The state that a word says.
abbrev pub state_in : ℕ → Option State
state_in word = pick (eqb word 1) (Some InFlight) (pick (eqb word 2) (Some Stopped) None)

-- The word of a state, which is 0 for neither.
abbrev pub word_of_state : Option State → ℕ
word_of_state None = 0
word_of_state (Some state) = state_number state

-- Whether two state words are the same.
abbrev pub state_is : ℕ → ℕ → Bool
state_is state this = eqb state this

-- The two states of a held record, as its field has them.
abbrev pub in_flight : ℕ
in_flight = 1

abbrev pub stopped : ℕ
stopped = 2

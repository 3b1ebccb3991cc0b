-- The finished table: one place for each slot, empty or one event. Document 01, module 3, and "What must change shape".
use Rattle.std.specs.Prelude.{ℕ, ◌+◌, ◌*◌, List, eqb, get_or, Option, Some, None}
use Rattle.base.specs.First.{pick}
use Rattle.trb.specs.Layouts.{words_at, put_words}
use Rattle.trb.specs.declared.Words.{Words}

-- "Reading leaves it." A place whose fourth word is 0 is empty; an event has its type there.
unfoldable pub finished_at : List ℕ → ℕ → Option Words
finished_at finished place = pick (eqb (get_or finished (4 * place + 3) 0) 0) None (Some (words_at finished place))

-- "a TRB's first store clears it."
abbrev pub clear_place : List ℕ → ℕ → List ℕ
clear_place finished place = put_words finished place (record { w0 = 0; w1 = 0; w2 = 0; w3 = 0 })

-- An empty place takes an event; a full one keeps its first, as in the Rust's queue.rs.
unfoldable pub fill_place : List ℕ → ℕ → Words → List ℕ
fill_place finished place event = pick (eqb (get_or finished (4 * place + 3) 0) 0) (put_words finished place event) finished

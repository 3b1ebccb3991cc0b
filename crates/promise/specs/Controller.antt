-- The controller. Document 01: "at its slot, other cycle bit than its own: nothing happens. Link: to slot 0, toggle. Else consume, move one on."
-- Whether the TRB at its slot is its own is the standard's rule (4.9.2, `owned` in `trb`).
use Rattle.std.specs.Prelude.{ℕ, ◌+◌, true, not, List, [], ◌∷◌, ◌++◌, eqb}
use Rattle.base.specs.First.{pick}
use Rattle.trb.specs.Cycle.{Pointer, owned, type_of}
use Rattle.trb.specs.Layouts.{words_at}
use Rattle.trb.specs.declared.Words.{Words}
use Rattle.order.specs.Model.{Placed}

-- A TRB in its slot.
abbrev pub Entry : Type 0
Entry = Placed Words

-- What the controller does at its slot.
pub data Does : Type 0 where
  waits : Does
  follows : Does
  consumes : Words → Does

unfoldable pub does : List ℕ → Pointer → Does
does ring c =
    let t = words_at ring c.slot in
    pick (owned t c) (pick (eqb (type_of t) 6) follows (consumes t)) waits

-- Where it is afterwards,
abbrev pub goes : Does → Pointer → Pointer
goes waits c = c
goes follows c = record { slot = 0; state = not c.state }
goes (consumes t) c = record { slot = c.slot + 1; state = c.state }

-- and what it has consumed.
abbrev pub with : Does → Pointer → List Entry → List Entry
with waits c l = l
with follows c l = l
with (consumes t) c l = l ++ record { at = c.slot; trb = t } ∷ []

-- It starts where the making puts the producer, at slot 0 with cycle 1.
abbrev pub outset : Pointer
outset = record { slot = 0; state = true }

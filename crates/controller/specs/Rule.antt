-- The controller. Document 01: "at its slot, other cycle bit than its own: nothing happens. Link: to slot 0, toggle. Else consume, move one on."
-- Whether the TRB at its slot is its own is the standard's rule (4.9.2, `owned` in `trb`).
use Rattle.std.specs.Prelude.{ℕ, ◌+◌, true, not, List, eqb}
use Rattle.base.specs.First.{pick}
use Rattle.trb.specs.Cycle.{Pointer, owned, type_of}
use Rattle.trb.specs.Layouts.{words_at}
use Rattle.trb.specs.declared.Words.{Words}
use Rattle.controller.specs.declared.Consumer.{Consumer}
use Rattle.controller.specs.declared.Step.{Step}
use Rattle.controller.specs.declared.Step.TheVariants.{Nothing, Linked, Took}
use Rattle.controller.specs.declared.Stepped.{Stepped}

-- The consumer's dequeue pointer with its cycle state, as the standard has it.
abbrev pub pointer : Consumer → Pointer
pointer c = record { slot = c.slot; state = c.state }

-- It starts where the making puts the producer, at slot 0 with cycle 1.
abbrev pub origin : Consumer
origin = record { slot = 0; state = true }

-- What it does with the words at its slot,
unfoldable pub does : Words → Consumer → Step
does w c = pick (owned w (pointer c)) (pick (eqb (type_of w) 6) Linked (Took w)) Nothing

-- and where it stands afterwards.
abbrev pub goes : Step → Consumer → Consumer
goes Nothing c = c
goes Linked c = record { slot = 0; state = not c.state }
goes (Took w) c = record { slot = c.slot + 1; state = c.state }

abbrev pub step_at : Words → Consumer → Stepped
step_at w c = record { step = does w c; after = goes (does w c) c }

-- One step, on the ring's words.
unfoldable pub step : List ℕ → Consumer → Stepped
step ring c = step_at (words_at ring c.slot) c

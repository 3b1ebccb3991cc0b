-- Document 01's number for each case of each answer, and the values that go with it.
use Rattle.std.specs.Prelude.{ℕ, List, [], ◌∷◌, ◌++◌, Result, ⊤, Ok, Err, Option, Some, None}
use Rattle.base.specs.Fields.{flag}
use Rattle.trb.specs.Layouts.{listed}
use Rattle.trb.specs.declared.Words.{Words}
use Rattle.ring.specs.declared.Pointer.{Pointer}
use Rattle.dock.specs.declared.Refusal.{Refusal}
use Rattle.dock.specs.Refusals.{number}
use Rattle.dock.specs.declared.Stored.{Stored}
use Rattle.dock.specs.declared.Submitted.{Submitted}
use Rattle.dock.specs.declared.Reclaimed.{Reclaimed}
use Rattle.dock.specs.declared.ResetCommands.{ResetCommands}
use Rattle.dock.specs.declared.Stored.TheVariants as stored
use Rattle.dock.specs.declared.Reclaimed.TheVariants as reclaimed

-- An answer as the paper has it.
abbrev pub Numbered : Type 0
Numbered = ℕ × List ℕ

abbrev pub outcome_number : Result ⊤ Refusal → Numbered
outcome_number (Ok u) = (0, [])
outcome_number (Err refusal) = (number refusal, [])

-- A store: its slot; the last also the id and the doorbell word.
abbrev pub stored_number : Result Stored Refusal → Numbered
stored_number (Ok (stored.Slot slot)) = (0, slot ∷ [])
stored_number (Ok (stored.Last slot id bell)) = (0, slot ∷ id ∷ bell ∷ [])
stored_number (Err refusal) = (number refusal, [])

abbrev pub submitted_number : Result Submitted Refusal → Numbered
submitted_number (Ok s) = (0, s.id ∷ s.bell ∷ [])
submitted_number (Err refusal) = (number refusal, [])

abbrev pub taken_number : Result ℕ Refusal → Numbered
taken_number (Ok slot) = (0, slot ∷ [])
taken_number (Err refusal) = (number refusal, [])

-- A completion: id, length, yes; the packet lengths stand in the packet table. Row 8: "completion code refused, with the code number".
abbrev pub reclaimed_number : Result Reclaimed Refusal → Numbered
reclaimed_number (Ok (reclaimed.Done c)) = (0, c.id ∷ c.length ∷ flag c.yes ∷ [])
reclaimed_number (Ok reclaimed.Cancelled) = (7, [])
reclaimed_number (Ok (reclaimed.Failed code)) = (8, code ∷ [])
reclaimed_number (Ok reclaimed.Mismatch) = (9, [])
reclaimed_number (Ok reclaimed.Nothing) = (10, [])
reclaimed_number (Err refusal) = (number refusal, [])

-- A reset: nothing to do, or the words of two commands.
abbrev pub resetting_number : Result (Option ResetCommands) Refusal → Numbered
resetting_number (Ok None) = (0, [])
resetting_number (Ok (Some c)) = (0, listed c.reset ++ listed c.dequeue)
resetting_number (Err refusal) = (number refusal, [])

abbrev pub command_number : Result Words Refusal → Numbered
command_number (Ok w) = (0, listed w)
command_number (Err refusal) = (number refusal, [])

abbrev pub pointed_number : Result Pointer Refusal → Numbered
pointed_number (Ok p) = (0, p.address ∷ flag p.cycle ∷ [])
pointed_number (Err refusal) = (number refusal, [])

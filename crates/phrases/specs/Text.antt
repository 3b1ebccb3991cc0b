-- The lines that each answer is written as. Document 01, "A session is lines of text" and the session behind it; a drive's words are in docs/DRIVE.md.
use Rattle.std.specs.Prelude.{ℕ, zero, suc, ◌+◌, min, List, [], ◌∷◌, ◌++◌, ltb, Ok, Result, ⊤, Err, Option, None, Some}
use Rattle.base.specs.First.{pick}
use Rattle.trb.specs.Layouts.{words_at}
use Rattle.trb.specs.declared.Words.{Words}
use Rattle.sizes.specs.Sizes.{record_count, packet_count}
use Rattle.packets.specs.Packets.{packet_at}
use Rattle.page.specs.Page.{decimal_field, hex_field, flag_field, newline}
use Rattle.controller.specs.declared.Consumer.{Consumer}
use Rattle.dock.specs.declared.Completion.{Completion}
use Rattle.dock.specs.declared.Endpoint.{Endpoint}
use Rattle.ring.specs.declared.Pointer.{Pointer}
use Rattle.dock.specs.declared.Refusal.{Refusal}
use Rattle.dock.specs.declared.Stored.{Stored}
use Rattle.dock.specs.declared.Submitted.{Submitted}
use Rattle.dock.specs.declared.Reclaimed.{Reclaimed}
use Rattle.dock.specs.declared.ResetCommands.{ResetCommands}
use Rattle.dock.specs.declared.Reclaimed.TheVariants as reclaimed
use Rattle.dock.specs.declared.Stored.TheVariants as stored
use Rattle.dock.specs.Refusals.{done}
use Rattle.dock.specs.Numbers.{Numbered, outcome_number, stored_number, submitted_number, taken_number, reclaimed_number, resetting_number, command_number, pointed_number}

-- The words that lines begin with: no, store, bell, taken, cut, done, command, pointer, clear, state, stands, bad.
abbrev pub no_text : List ℕ
no_text = 110 ∷ 111 ∷ []

abbrev pub store_text : List ℕ
store_text = 115 ∷ 116 ∷ 111 ∷ 114 ∷ 101 ∷ []

abbrev pub bell_text : List ℕ
bell_text = 98 ∷ 101 ∷ 108 ∷ 108 ∷ []

abbrev pub taken_text : List ℕ
taken_text = 116 ∷ 97 ∷ 107 ∷ 101 ∷ 110 ∷ []

abbrev pub cut_text : List ℕ
cut_text = 99 ∷ 117 ∷ 116 ∷ []

abbrev pub done_text : List ℕ
done_text = 100 ∷ 111 ∷ 110 ∷ 101 ∷ []

abbrev pub command_text : List ℕ
command_text = 99 ∷ 111 ∷ 109 ∷ 109 ∷ 97 ∷ 110 ∷ 100 ∷ []

abbrev pub pointer_text : List ℕ
pointer_text = 112 ∷ 111 ∷ 105 ∷ 110 ∷ 116 ∷ 101 ∷ 114 ∷ []

abbrev pub clear_text : List ℕ
clear_text = 99 ∷ 108 ∷ 101 ∷ 97 ∷ 114 ∷ []

abbrev pub state_text : List ℕ
state_text = 115 ∷ 116 ∷ 97 ∷ 116 ∷ 101 ∷ []

abbrev pub stands_text : List ℕ
stands_text = 115 ∷ 116 ∷ 97 ∷ 110 ∷ 100 ∷ 115 ∷ []

abbrev pub bad_text : List ℕ
bad_text = 98 ∷ 97 ∷ 100 ∷ []

-- Numbers as fields, before the rest of a line.
unfoldable pub numbers_text : List ℕ → List ℕ → List ℕ
numbers_text [] rest = rest
numbers_text (n ∷ ns) rest = decimal_field n ++ numbers_text ns rest

-- A word with numbers behind it; by itself, and with one.
unfoldable pub numbers_line : List ℕ → List ℕ → List ℕ
numbers_line name ns = name ++ numbers_text ns newline

abbrev pub word_line : List ℕ → List ℕ
word_line name = numbers_line name []

abbrev pub number_line : List ℕ → ℕ → List ℕ
number_line name n = numbers_line name (n ∷ [])

-- "A refusal writes `no` and its number (for 8 also the code)": the number and the values that Numbers gives the answer.
abbrev pub refusal_line : Numbered → List ℕ
refusal_line answer = numbers_line no_text (answer.0 ∷ answer.1)

-- A row without values, and a refused completion code.
abbrev pub no_line : ℕ → List ℕ
no_line row = refusal_line (row, [])

abbrev pub failed_line : ℕ → List ℕ
failed_line code = refusal_line (reclaimed_number (Ok (reclaimed.Failed code)))

-- Words of 32 bits have eight digits.
unfoldable pub words_text : Words → List ℕ
words_text w = hex_field 8 w.w0 ++ (hex_field 8 w.w1 ++ (hex_field 8 w.w2 ++ (hex_field 8 w.w3 ++ newline)))

-- A slot and its words.
unfoldable pub slot_line : List ℕ → ℕ → Words → List ℕ
slot_line name slot w = name ++ (decimal_field slot ++ words_text w)

-- "`bell` is doorbell word, id".
unfoldable pub bell_line : ℕ → ℕ → List ℕ
bell_line bell id = bell_text ++ (hex_field 1 bell ++ (decimal_field id ++ newline))

unfoldable pub outcome_line : List ℕ → Result ⊤ Refusal → List ℕ
outcome_line name (Ok u) = numbers_line name (outcome_number done).1
outcome_line name (Err row) = refusal_line (outcome_number (Err row))

-- "a cancel writes `cut`, id".
unfoldable pub cut_line : ℕ → Result ⊤ Refusal → List ℕ
cut_line id (Ok u) = number_line cut_text id
cut_line id (Err row) = refusal_line (outcome_number (Err row))

-- A store: the slot and its words as they then stand; behind the last one the bell.
unfoldable pub stored_lines : List ℕ → Result Stored Refusal → List ℕ
stored_lines ring (Ok (stored.Slot slot)) = slot_line store_text slot (words_at ring slot)
stored_lines ring (Ok (stored.Last slot id bell)) = slot_line store_text slot (words_at ring slot) ++ bell_line bell id
stored_lines ring (Err row) = refusal_line (stored_number (Err row))

unfoldable pub submitted_line : Result Submitted Refusal → List ℕ
submitted_line (Ok s) = bell_line s.bell s.id
submitted_line (Err row) = refusal_line (submitted_number (Err row))

unfoldable pub taken_line : Result ℕ Refusal → List ℕ
taken_line (Ok slot) = numbers_line taken_text (taken_number (Ok slot)).1
taken_line (Err row) = refusal_line (taken_number (Err row))

-- What was counted for packet k of a record; a record that is none has no packets.
unfoldable pub counted_at : List ℕ → ℕ → ℕ → ℕ
counted_at packets number k = pick (ltb number record_count) (packet_at packets number k).actual 0

-- The lengths of so many packets, from packet k on.
unfoldable pub lengths_text : ℕ → List ℕ → ℕ → ℕ → List ℕ
lengths_text zero packets number k = []
lengths_text (suc left) packets number k = decimal_field (counted_at packets number k) ++ lengths_text left packets number (k + 1)

-- "`done` is id, length, yes, then any ISO packet lengths". A record has at most 64.
unfoldable pub done_line : List ℕ → Completion → List ℕ
done_line packets c =
    done_text ++ numbers_text (reclaimed_number (Ok (reclaimed.Done c))).1 (lengths_text (min packet_count c.packets) packets c.number 0 ++ newline)

unfoldable pub reclaimed_line : List ℕ → Result Reclaimed Refusal → List ℕ
reclaimed_line packets (Ok (reclaimed.Done c)) = done_line packets c
reclaimed_line packets (Ok reclaimed.Cancelled) = refusal_line (reclaimed_number (Ok reclaimed.Cancelled))
reclaimed_line packets (Ok (reclaimed.Failed code)) = refusal_line (reclaimed_number (Ok (reclaimed.Failed code)))
reclaimed_line packets (Ok reclaimed.Mismatch) = refusal_line (reclaimed_number (Ok reclaimed.Mismatch))
reclaimed_line packets (Ok reclaimed.Nothing) = refusal_line (reclaimed_number (Ok reclaimed.Nothing))
reclaimed_line packets (Err row) = refusal_line (reclaimed_number (Err row))

-- The words of a command.
unfoldable pub command_line : Words → List ℕ
command_line w = command_text ++ words_text w

unfoldable pub resetting_lines : Result (Option ResetCommands) Refusal → List ℕ
resetting_lines (Ok None) = word_line clear_text
resetting_lines (Ok (Some c)) = command_line c.reset ++ command_line c.dequeue
resetting_lines (Err row) = refusal_line (resetting_number (Err row))

unfoldable pub commanded_line : Result Words Refusal → List ℕ
commanded_line (Ok w) = command_line w
commanded_line (Err row) = refusal_line (command_number (Err row))

-- Where the producer stands: the address, the cycle.
unfoldable pub pointed_line : Result Pointer Refusal → List ℕ
pointed_line (Ok p) = pointer_text ++ (hex_field 1 p.address ++ (flag_field p.cycle ++ newline))
pointed_line (Err row) = refusal_line (pointed_number (Err row))

-- Place, cycle, outstanding, next id, next frame, halted, reset under way.
unfoldable pub state_rest : Endpoint → List ℕ
state_rest e =
    decimal_field e.account.next
    ++ (decimal_field e.periodic.frame ++ (flag_field e.flags.halted ++ (flag_field e.flags.reset ++ newline)))

unfoldable pub state_line : Endpoint → List ℕ
state_line e =
    state_text
    ++ (decimal_field e.at.place ++ (flag_field e.at.cycle ++ (decimal_field e.account.outstanding ++ state_rest e)))

-- Where the controller stands: slot, cycle.
unfoldable pub stands_line : Consumer → List ℕ
stands_line c = stands_text ++ (decimal_field c.slot ++ (flag_field c.state ++ newline))

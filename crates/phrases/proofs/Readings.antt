-- The lines of document 01, letter by letter, computed by the definitions: the lines of its session, and lines of refusals. Assumes nothing.
use Rattle.std.specs.Prelude.{Ok, Err}
use Prim.Native.Nat.{ℕ}
use Prim.Native.Char.{code}
use Prim.Native.String.{String, [] as none, ◌∷◌ as followed}
use mathlib.Core.Bool.{true}
use mathlib.Core.List.{List, [], ◌∷◌, ◌++◌}
use mathlib.Core.Path.{◌≡◌, refl}
use Rattle.trb.specs.Layouts.{words_at}
use Rattle.packets.specs.Packets.{packet_at}
use Rattle.dock.specs.declared.Completion.{Completion}
use Rattle.dock.specs.declared.Reclaimed.TheVariants as reclaimed
use Rattle.dock.specs.declared.Stored.TheVariants as stored
use Rattle.dock.specs.Refusals.{refusal, done}
use Rattle.page.specs.Page.{places_in, places, decimal, hex, decimal_field, hex_field}
use Rattle.phrases.specs.Text.{bad_text, numbers_text, numbers_line, number_line, words_text, slot_line, bell_line, cut_line, stored_lines, submitted_line, taken_line}
use Rattle.phrases.specs.Text.{counted_at, lengths_text, done_line, reclaimed_line}

-- A text's bytes.
abbrev bytes : String → List ℕ
bytes none = []
bytes (followed c s) = code c ∷ bytes s

-- The ring of the session behind its stores; the setup's last word is stored twice.
abbrev ring : ℕ → List ℕ
ring last =
    0x0100_0680 ∷ 0x0012_0000 ∷ 8 ∷ last
    ∷ 0x0002_0000 ∷ 0 ∷ 0x12 ∷ 0x0001_0c05
    ∷ 0 ∷ 0 ∷ 0 ∷ 0x1021
    ∷ []

-- A completion of record 0 with so many packets.
abbrev completion : ℕ → ℕ → Completion
completion length packets = record { id = 1; length = length; yes = true; number = 0; packets = packets }

-- "writes, whole".
session :
    stored_lines (ring 0x0003_0840) (Ok (stored.Slot 0))
    ++ (stored_lines (ring 0x0003_0840) (Ok (stored.Slot 1))
    ++ (stored_lines (ring 0x0003_0840) (Ok (stored.Slot 2))
    ++ (stored_lines (ring 0x0003_0841) (Ok (stored.Last 0 1 1))
    ++ (taken_line (Ok 2) ++ reclaimed_line [] (Ok (reclaimed.Done (completion 18 0)))))))
    ≡ bytes "store\t0\t01000680\t00120000\t00000008\t00030840\n"
    ++ (bytes "store\t1\t00020000\t00000000\t00000012\t00010c05\n"
    ++ (bytes "store\t2\t00000000\t00000000\t00000000\t00001021\n"
    ++ (bytes "store\t0\t01000680\t00120000\t00000008\t00030841\n" ++ bytes "bell\t1\t1\ntaken\t2\ndone\t1\t18\t1\n")))
unfolding places_in places decimal hex decimal_field hex_field words_at numbers_text numbers_line words_text slot_line bell_line stored_lines taken_line lengths_text done_line reclaimed_line
session = refl

-- "then any ISO packet lengths": of two packets that count 100 and 92.
lengths : reclaimed_line (0x8000_0064_0000_0000 ∷ 0x8000_005c_0000_0000 ∷ []) (Ok (reclaimed.Done (completion 192 2))) ≡ bytes "done\t1\t192\t1\t100\t92\n"
unfolding places_in places decimal decimal_field numbers_text numbers_line packet_at counted_at lengths_text done_line reclaimed_line
lengths = refl

-- "a cancel writes `cut`, id".
cut : cut_line 300 done ≡ bytes "cut\t300\n"
unfolding places_in places decimal decimal_field numbers_text numbers_line cut_line
cut = refl

-- "A refusal writes `no` and its number (for 8 also the code)."
refusals :
    reclaimed_line [] (Ok reclaimed.Cancelled)
    ++ (reclaimed_line [] (Ok (reclaimed.Failed 6))
    ++ (reclaimed_line [] (Ok reclaimed.Mismatch)
    ++ (reclaimed_line [] (Ok reclaimed.Nothing)
    ++ (cut_line 300 (Err (refusal 6))
    ++ (submitted_line (Err (refusal 2))
    ++ (taken_line (Err (refusal 11)) ++ stored_lines [] (Err (refusal 12))))))))
    ≡ bytes "no\t7\nno\t8\t6\nno\t9\nno\t10\nno\t6\nno\t2\nno\t11\nno\t12\n"
unfolding places_in places decimal decimal_field numbers_text numbers_line cut_line stored_lines submitted_line taken_line reclaimed_line
refusals = refl

-- "writes `bad` and its line number".
bad : number_line bad_text 21 ≡ bytes "bad\t21\n"
unfolding places_in places decimal decimal_field numbers_text numbers_line
bad = refl

-- An answer as document 01's number and nine words: how many values it has, the values, then zeros.
use Rattle.std.specs.Prelude.{ℕ, List, [], ◌∷◌, ◌++◌, length, get_or, Result, Ok, Err}
use Rattle.dock.specs.Numbers.{Numbered, reclaimed_number}
use Rattle.dock.specs.declared.Reclaimed.{Reclaimed}
use Rattle.dock.specs.declared.Refusal.{Refusal}
use Rattle.dock.specs.declared.Reclaimed.TheVariants as reclaimed
use Rattle.told.specs.declared.answer.Told.{Told}

abbrev pub answer_words : ℕ
answer_words = 9

-- A numbered answer: its number, and the nine words.
abbrev pub told_of : Numbered → Told
told_of n =
    record {
      number = n.0;
      words =
          length n.1 ∷ get_or n.1 0 0 ∷ get_or n.1 1 0 ∷ get_or n.1 2 0 ∷ get_or n.1 3 0 ∷ get_or n.1 4 0 ∷ get_or n.1 5 0 ∷ get_or n.1 6 0 ∷ get_or n.1 7 0 ∷ [];
    }

-- What a call of it returns and writes.
unfoldable pub spoken : Told → ℕ × List ℕ
spoken t = (t.number, t.words)

-- Where a completion's packet lengths stand: its record, and how many there are. They follow the paper's values.
abbrev pub placed : Result Reclaimed Refusal → List ℕ
placed (Ok (reclaimed.Done c)) = c.number ∷ c.packets ∷ []
placed (Ok reclaimed.Cancelled) = []
placed (Ok (reclaimed.Failed code)) = []
placed (Ok reclaimed.Mismatch) = []
placed (Ok reclaimed.Nothing) = []
placed (Err number) = []

abbrev pub reclaimed_told : Result Reclaimed Refusal → Numbered
reclaimed_told a = ((reclaimed_number a).0, (reclaimed_number a).1 ++ placed a)

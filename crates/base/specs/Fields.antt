-- A word as a list of bit fields, each at an offset, so many bits wide, with its value: how the standard lays out a TRB.
use Rattle.std.specs.Prelude.{ℕ, ◌+◌, ◌*◌, ◌/◌, ◌%◌, ◌^◌, Bool, true, false, ◌&&◌, List, [], ◌∷◌, leb}

pub record Field : Type 0 where
  pub at : ℕ
  pub wide : ℕ
  pub value : ℕ

-- The field of `wide` bits at bit `at`; of a value that is too large the low bits count.
abbrev pub field : ℕ → ℕ → ℕ → Field
field at wide value = record { at = at; wide = wide; value = value }

-- A flag as the value of a field.
abbrev pub flag : Bool → ℕ
flag true = 1
flag false = 0

-- The word that has these fields, and 0 in every bit that no field names.
abbrev pub word : List Field → ℕ
word [] = 0
word (f ∷ fs) = f.value % 2 ^ f.wide * 2 ^ f.at + word fs

-- The `wide` bits of a word from bit `at` on.
abbrev pub bits : ℕ → ℕ → ℕ → ℕ
bits at wide w = w / 2 ^ at % 2 ^ wide

-- The fields stand in rising order from bit `from` on, none reaches into the next, and none beyond bit `to`.
abbrev pub rising : ℕ → ℕ → List Field → Bool
rising from to [] = leb from to
rising from to (f ∷ fs) = leb from f.at && rising (f.at + f.wide) to fs

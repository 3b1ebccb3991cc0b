-- The digits of a number, and a number that is read digit by digit, with the limit of its type.
use Rattle.std.specs.Prelude.{ℕ, ◌+◌, ◌-◌, ◌*◌, Bool, ◌&&◌, List, [], ◌∷◌, ltb, leb, Option, None, Some}
use Rattle.base.specs.First.{pick}

-- What a byte is worth as a digit: 0 to 9, A to F or a to f; any other is none.
unfoldable pub digit_of : ℕ → Option ℕ
digit_of b =
    pick (ltb b 48) None
    (pick (ltb b 58) (Some (b - 48))
    (pick (ltb b 65) None
    (pick (ltb b 71) (Some (b - 55))
    (pick (ltb b 97) None
    (pick (ltb b 103) (Some (b - 87)) None)))))

-- A digit of the base, with which the number is not above its type's largest.
unfoldable pub fits : ℕ → ℕ → ℕ → ℕ → Bool
fits value base digit most = ltb digit base && leb (value * base + digit) most

-- The number with a byte more, which must be a digit that fits.
unfoldable pub grown_by : ℕ → ℕ → ℕ → Option ℕ → Option ℕ
grown_by base most value None = None
grown_by base most value (Some digit) = pick (fits value base digit most) (Some (value * base + digit)) None

-- What comes of a number, where there is one.
abbrev pub if_number : Option ℕ → (ℕ → Option ℕ) → Option ℕ
if_number None next = None
if_number (Some value) next = next value

-- The number that the bytes make behind a value, each a digit.
unfoldable pub number_from : ℕ → ℕ → ℕ → List ℕ → Option ℕ
number_from base most value [] = Some value
number_from base most value (b ∷ bs) = if_number (grown_by base most value (digit_of b)) (λ v. number_from base most v bs)

-- A number has a digit.
unfoldable pub number : ℕ → ℕ → List ℕ → Option ℕ
number base most [] = None
number base most (b ∷ bs) = number_from base most 0 (b ∷ bs)

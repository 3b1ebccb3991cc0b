-- What is written: bytes put on a page, which is written out where it is full, and a number's text.
use Rattle.std.specs.Prelude.{ℕ, zero, suc, ◌+◌, ◌/◌, max, Bool, List, [], ◌∷◌, ◌++◌, ltb, length, set, take}
use Rattle.base.specs.Fields.{flag}
use Rattle.base.specs.First.{pick}
use Rattle.io.specs.Digits.{last_digits}

-- A page: how many bytes stand on it, and all its bytes.
abbrev pub Page : Type 0
Page = ℕ × List ℕ

unfoldable pub stands : Page → List ℕ
stands p = take p.0 p.1

-- One byte more. A full page is written out first, and the byte stands at its front.
unfoldable pub put : Page → ℕ → Page
put p b = pick (ltb p.0 (length p.1)) (p.0 + 1, set p.1 p.0 b) (1, set p.1 0 b)

unfoldable pub put_all : Page → List ℕ → Page
put_all p [] = p
put_all p (b ∷ bs) = put_all (put p b) bs

-- What one byte more writes out, and bytes in order.
unfoldable pub spill : Page → List ℕ
spill p = pick (ltb p.0 (length p.1)) [] (stands p)

unfoldable pub spilled : Page → List ℕ → List ℕ
spilled p [] = []
spilled p (b ∷ bs) = spill p ++ spilled (put p b) bs

-- What a program does with its page, move by move: a text is put on it, or what stands on it is written.
pub data Move : Type 0 where
  text : List ℕ → Move
  flush : Move

unfoldable pub moved : Page → List Move → Page
moved p [] = p
moved p (text bs ∷ ms) = moved (put_all p bs) ms
moved p (flush ∷ ms) = moved (0, p.1) ms

-- What it writes out by that, and the texts.
unfoldable pub written : Page → List Move → List ℕ
written p [] = []
written p (text bs ∷ ms) = spilled p bs ++ written (put_all p bs) ms
written p (flush ∷ ms) = stands p ++ written (0, p.1) ms

unfoldable pub texts : List Move → List ℕ
texts [] = []
texts (text bs ∷ ms) = bs ++ texts ms
texts (flush ∷ ms) = texts ms

-- How many digits a number has in a base; no number of 64 bits has more than 20.
unfoldable pub places_in : ℕ → ℕ → ℕ → ℕ
places_in zero base n = 1
places_in (suc fuel) base n = pick (ltb n base) 1 (1 + places_in fuel base (n / base))

unfoldable pub places : ℕ → ℕ → ℕ
places base n = places_in 20 base n

-- A number's text: decimal, and hex of at least so many digits.
unfoldable pub decimal : ℕ → List ℕ
decimal n = last_digits 10 (places 10 n) n

unfoldable pub hex : ℕ → ℕ → List ℕ
hex least n = last_digits 16 (max least (places 16 n)) n

-- A field: a tab before it. A flag is 0 or 1.
unfoldable pub decimal_field : ℕ → List ℕ
decimal_field n = 9 ∷ decimal n

unfoldable pub hex_field : ℕ → ℕ → List ℕ
hex_field least n = 9 ∷ hex least n

abbrev pub flag_field : Bool → List ℕ
flag_field b = decimal_field (flag b)

-- The end of a line.
abbrev pub newline : List ℕ
newline = 10 ∷ []

-- Words. The number of each word is that of its letters (`spelled`), each number is looked up as its word (`looked_up`), and no two words make one number
-- (`one_word`): a word that is read is the word of the table, and no other. Assumes nothing.
use Prim.Native.Nat.{ℕ, zero, suc, ◌+◌, ◌-◌, ◌*◌, ◌/◌, ◌%◌, ◌^◌, ◌≤◌, ◌<◌}
use mathlib.Core.Bool.{Bool, true, false, ◌&&◌}
use mathlib.Core.List.{List, [], ◌∷◌, ◌++◌, append-nil}
use Rattle.std.specs.Prelude.{Option, None, Some}
use mathlib.Core.Path.{◌≡◌, refl, sym, ap, ◌∙◌}
use native.Mathlib.Omega.{arith}
use borrow.Author.Tests.{ne_eqb}
use lib.Dec.{eqb}
use lib.ListN.{length}
use Rattle.base.specs.First.{pick}
use Rattle.base.proofs.Decide.{Decides, by_leb, by_ltb, both}
use Rattle.words.specs.declared.Word.{Word}
use Rattle.words.specs.declared.Word.TheVariants.{Ring, Control, Bulk, Iso, Event, Reclaim, Cancel, Configure, Interrupt, Begin, Store, Whole, Slot, Retire, Stop, Resume, Reset, End, Pointer, Step, NextId, Poke, State, New, Finished, Records, Packets}
use Rattle.words.specs.Words.{spelling, word_of}
use Rattle.lines.specs.Reader.{grows, grown}
use Rattle.format.specs.Format.{word_from}

-- ---- the table of words

abbrev is : Option ℕ → ℕ → Bool
is None n = false
is (Some v) n = eqb v n

abbrev right : List (ℕ × List ℕ) → Bool
right [] = true
right (p ∷ ps) = is (word_from 0 p.1) p.0 && right ps

-- Every word's letters make its number.
pub spelled : right spelling ≡ true
unfolding word_from grows
spelled = refl

-- What the numbers of the table are looked up as.
abbrev words_of : List (ℕ × List ℕ) → List (Option Word)
words_of [] = []
words_of (p ∷ ps) = word_of p.0 ∷ words_of ps

-- Every word, in the table's order: none is hidden by one before it.
abbrev every_word : List (Option Word)
every_word =
    Some Ring ∷ Some Control ∷ Some Bulk ∷ Some Iso ∷ Some Event ∷ Some Reclaim ∷ Some Cancel ∷ Some Configure ∷ Some Interrupt ∷ Some Begin
    ∷ Some Store ∷ Some Whole ∷ Some Slot ∷ Some Retire ∷ Some Stop ∷ Some Resume ∷ Some Reset ∷ Some End ∷ Some Pointer ∷ Some Step
    ∷ Some NextId ∷ Some Poke ∷ Some State ∷ Some New ∷ Some Finished ∷ Some Records ∷ Some Packets ∷ []

pub looked_up : words_of spelling ≡ every_word
unfolding word_of
looked_up = refl

-- ---- the letters of a number

unfoldable unspell : ℕ → ℕ → List ℕ → List ℕ
unspell zero n behind = behind
unspell (suc f) n behind = pick (eqb n 0) behind (unspell f (n / 32) ((n % 32 + 96) ∷ behind))

none_left : (f : ℕ) (behind : List ℕ) → unspell f 0 behind ≡ behind
unfolding unspell
none_left zero behind = refl
none_left (suc f) behind = refl

by_grows : (w b : ℕ) → Decides (grows w b) (((97 ≤ b) × (b ≤ 122)) × (w < 2 ^ 55))
unfolding grows
by_grows w b = both (both (by_leb 97 b) (by_leb b 122)) (by_ltb w (2 ^ 55))

-- The last letter of a word.
last : (w b f : ℕ) (behind : List ℕ) → grows w b ≡ true → unspell (suc f) (grown w b) behind ≡ unspell f w (b ∷ behind)
unfolding unspell
last w b f behind e =
    let k = (by_grows w b).so e in
    let low : 97 ≤ b = k.0.0 in
    let high : b ≤ 122 = k.0.1 in
    let rest : (w * 32 + (b - 96)) / 32 ≡ w = omega arith in
    let letter : (w * 32 + (b - 96)) % 32 + 96 ≡ b = omega arith in
    rw (ne_eqb (w * 32 + (b - 96)) 0 (λ z. omega arith), rest, letter)

by_letter : (b : ℕ) (bs : List ℕ) (w n f : ℕ) (behind : List ℕ) (g : Bool) → grows w b ≡ g → pick g (word_from (grown w b) bs) None ≡ Some n
    → (word_from (grown w b) bs ≡ Some n → unspell (length bs + suc f) n behind ≡ unspell (suc f) (grown w b) (bs ++ behind))
    → unspell (length (b ∷ bs) + f) n behind ≡ unspell f w ((b ∷ bs) ++ behind)
by_letter b bs w n f behind true eg e more =
    let fuel : length (b ∷ bs) + f ≡ length bs + suc f = omega arith in
    ap (λ (k : ℕ). unspell k n behind) fuel ∙ more e ∙ last w b f (bs ++ behind) eg
by_letter b bs w n f behind false eg e more = let z : ◌≡◌ {A = ℕ} 0 1 = cc in absurd (omega arith)

back : (xs : List ℕ) (w n f : ℕ) (behind : List ℕ) → word_from w xs ≡ Some n → unspell (length xs + f) n behind ≡ unspell f w (xs ++ behind)
unfolding word_from
back [] w n f behind e =
    let same : w ≡ n = cc in
    let fuel : 0 + f ≡ f = omega arith in
    ap (λ (k : ℕ). unspell k n behind) fuel ∙ ap (λ (k : ℕ). unspell f k behind) (sym same)
back (b ∷ bs) w n f behind e = by_letter b bs w n f behind (grows w b) refl e (back bs (grown w b) n (suc f) behind)

-- Two words that make one number are one word.
pub one_word : (xs ys : List ℕ) (n : ℕ) → word_from 0 xs ≡ Some n → word_from 0 ys ≡ Some n → xs ≡ ys
one_word xs ys n ex ey =
    let fuel : length xs + length ys ≡ length ys + length xs = omega arith in
    sym (append-nil xs) ∙ sym (none_left (length ys) (xs ++ []))
    ∙ sym (back xs 0 n (length ys) [] ex)
    ∙ ap (λ (k : ℕ). unspell k n []) fuel
    ∙ back ys 0 n (length xs) [] ey
    ∙ none_left (length xs) (ys ++ [])
    ∙ append-nil ys

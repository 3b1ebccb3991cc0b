-- The format of a line as a whole: what a line of bytes says. The reader of `lines` comes to the same, byte by byte (proofs/FormatLaws).
--
-- Fields are parted by tabs. The first is a word; a word that names another is followed by that one; then come the numbers that the word takes, each of
-- its kind. A line with an unknown word, or a field missing, extra, unreadable or too large for its type is bad.
use Rattle.std.specs.Prelude.{ℕ, ◌%◌, Bool, List, [], ◌∷◌, eqb, Option, None, Some}
use Rattle.base.specs.First.{pick}
use Rattle.words.specs.declared.Word.{Word}
use Rattle.words.specs.Words.{name, word_of, form_of, base_of, most_of, rest_of}
use Rattle.digits.specs.Digits.{number}
use Rattle.lines.specs.declared.Line.{Line}
use Rattle.lines.specs.Reader.{grows, grown, keep, complete}

-- The bytes before the first tab, and the fields behind it.
unfoldable pub head : List ℕ → List ℕ
head [] = []
head (b ∷ bs) = pick (eqb b 9) [] (b ∷ head bs)

unfoldable pub tail : List ℕ → List (List ℕ)
tail [] = []
tail (b ∷ bs) = pick (eqb b 9) (head bs ∷ tail bs) (tail bs)

abbrev pub fields : List ℕ → List (List ℕ)
fields bs = head bs ∷ tail bs

-- The number that letters make behind what stands.
unfoldable pub word_from : ℕ → List ℕ → Option ℕ
word_from n [] = Some n
word_from n (b ∷ bs) = pick (grows n b) (word_from (grown n b) bs) None

-- What a line says: the word before, the word, and how many numbers; and the numbers. Or it is bad.
pub data Said : Type 0 where
  bad_line : Said
  said : Line → List ℕ → Said

-- What a field that can be read leads to,
abbrev pub if_read : {A : Type 0} → Option A → (A → Said) → Said
if_read None next = bad_line
if_read (Some v) next = next v

-- and letters that make a word which has a form, behind another or as the line's first: the word, and the form.
abbrev pub if_word : Bool → Option Word → Option ℕ → (Word → ℕ → Said) → Said
if_word full before letters next =
    if_read letters (λ n. if_read (word_of n) (λ w. if_read (form_of full before w) (λ f. next w f)))

-- Behind a word, with the form of its fields: the fields that are left. n numbers stand already.
unfoldable pub follow : Bool → Option Word → Word → ℕ → ℕ → List ℕ → List (List ℕ) → Said
follow full before w f n values [] = pick (complete f) (said (record { before = before; word = w; count = n }) values) bad_line
follow full before w f n values (x ∷ xs) =
    pick (eqb f 0) bad_line
    (pick (eqb f name)
    (if_word full (Some w) (word_from 0 x) (λ v form. follow full (Some w) v form n values xs))
    (if_read (number (base_of (f % 16)) (most_of (f % 16)) x) (λ v. follow full before w (rest_of f) (keep n v values).0 (keep n v values).1 xs)))

-- A line, with room for so many numbers: its first field is a word.
unfoldable pub line : Bool → List ℕ → List ℕ → Said
line full values bs = if_word full None (word_from 0 (head bs)) (λ w form. follow full None w form 0 values (tail bs))

-- The reader of a line between two of its bytes: what each byte, and the line's end, does to it. The crate `format` says what comes of a whole line.
use Rattle.std.specs.Prelude.{ℕ, ◌+◌, ◌-◌, ◌*◌, ◌%◌, ◌^◌, Bool, true, false, not, ◌&&◌, ◌||◌, List, [], ◌∷◌, eqb, ltb, leb, length, set, Option, None, Some, is_none, unwrap_or}
use Rattle.base.specs.First.{pick}
use Rattle.lines.specs.declared.Line.{Line}
use Rattle.lines.specs.declared.Reading.{Reading}
use Rattle.lines.specs.declared.Scanned.{Scanned}
use Rattle.words.specs.declared.Word.{Word}
use Rattle.words.specs.Words.{name, counts, word_of, of_letters, form_of, base_of, most_of, rest_of}
use Rattle.digits.specs.Digits.{digit_of, grown_by}

abbrev pub start : Bool → Reading
start full =
    record { full = full; good = true; naming = true; before = None; letters = 0; word = None; form = 0; value = None; count = 0 }

-- What a byte changes: the line is bad; the letters grow, and the word goes on; the number grows; the word and its form are known; a number is kept; a
-- word or a number begins.
abbrev pub bad : Reading → Reading
bad r =
    record { full = r.full; good = false; naming = r.naming; before = r.before; letters = r.letters; word = r.word; form = r.form; value = r.value; count = r.count }

abbrev pub with_letters : Reading → ℕ → Reading
with_letters r n =
    record { full = r.full; good = r.good; naming = r.naming; before = r.before; letters = n; word = None; form = r.form; value = r.value; count = r.count }

abbrev pub with_value : Reading → ℕ → Reading
with_value r v =
    record { full = r.full; good = r.good; naming = r.naming; before = r.before; letters = r.letters; word = r.word; form = r.form; value = Some v; count = r.count }

abbrev pub with_word : Reading → Word → ℕ → Reading
with_word r w f =
    record { full = r.full; good = r.good; naming = r.naming; before = r.before; letters = r.letters; word = Some w; form = f; value = r.value; count = r.count }

abbrev pub with_count : Reading → ℕ → ℕ → Reading
with_count r n f =
    record { full = r.full; good = r.good; naming = r.naming; before = r.before; letters = r.letters; word = r.word; form = f; value = r.value; count = n }

abbrev pub another_word : Reading → Reading
another_word r =
    record { full = r.full; good = r.good; naming = true; before = r.word; letters = 0; word = None; form = 0; value = r.value; count = r.count }

abbrev pub another_number : Reading → Reading
another_number r =
    record { full = r.full; good = r.good; naming = false; before = r.before; letters = r.letters; word = r.word; form = r.form; value = None; count = r.count }

-- ---- a byte

-- A letter, a to z, of a word that is not yet longer than any.
unfoldable pub grows : ℕ → ℕ → Bool
grows n b = leb 97 b && leb b 122 && ltb n (2 ^ 55)

abbrev pub grown : ℕ → ℕ → ℕ
grown n b = n * 32 + (b - 96)

unfoldable pub letter : Reading → ℕ → Reading
letter r b = pick (grows r.letters b) (with_letters r (grown r.letters b)) (bad r)

-- A number with a digit more, where it has one.
abbrev pub with_number : Reading → Option ℕ → Reading
with_number r None = bad r
with_number r (Some v) = with_value r v

unfoldable pub digit : Reading → ℕ → Reading
digit r b = with_number r (grown_by (base_of (r.form % 16)) (most_of (r.form % 16)) (unwrap_or r.value 0) (digit_of b))

-- ---- the end of a field

-- A number is kept where there is room for it: how many stand, and the numbers.
unfoldable pub keep : ℕ → ℕ → List ℕ → ℕ × List ℕ
keep n v values = pick (ltb n (length values)) (n + 1, set values n v) (n, values)

-- A word is one that is known and has a form,
abbrev pub with_form_of : Reading → Word → Option ℕ → Reading
with_form_of r w None = bad r
with_form_of r w (Some f) = with_word r w f

abbrev pub with_word_of : Reading → Option Word → Reading
with_word_of r None = bad r
with_word_of r (Some w) = with_form_of r w (form_of r.full r.before w)

unfoldable pub close_word : Reading → Reading
close_word r = with_word_of r (word_of r.letters)

-- and a number has a digit.
abbrev pub with_kept : Reading → List ℕ → Option ℕ → Reading × List ℕ
with_kept r values None = (bad r, values)
with_kept r values (Some v) = let k = keep r.count v values in (with_count r k.0 (rest_of r.form), k.1)

unfoldable pub close_number : Reading → List ℕ → Reading × List ℕ
close_number r values = with_kept r values r.value

-- A word ends where the field is one, or where none has ended yet; else a number.
unfoldable pub close : Reading → List ℕ → Reading × List ℕ
close r values = pick (r.naming || is_none r.word) (close_word r, values) (close_number r values)

-- Behind a tab another field begins: a word, a number, or one that the line's word does not take.
unfoldable pub opened : Reading → Reading
opened r =
    pick (not r.good) r
    (pick (eqb r.form 0) (bad r)
    (pick (eqb r.form name) (another_word r) (another_number r)))

-- ---- one byte, and the line's end

unfoldable pub feed : Reading → List ℕ → ℕ → Reading × List ℕ
feed r values b =
    let c = close r values in
    pick (not r.good) (r, values)
    (pick (eqb b 9) (opened c.0, c.1)
    (pick r.naming (letter r b, values) (digit r b, values)))

-- Every field that the word takes has come.
unfoldable pub complete : ℕ → Bool
complete f = eqb f 0 || eqb f counts

unfoldable pub finish : Reading → List ℕ → Reading × List ℕ
finish r values =
    let c = close r values in
    pick (not r.good) (r, values) (pick (complete c.0.form) c (bad c.0, c.1))

-- What the line says so far: nothing where it is bad. A word that has not ended is what its letters make so far.
abbrev pub word_so_far : Reading → Word
word_so_far r = unwrap_or r.word (of_letters r.letters)

unfoldable pub line_of : Reading → Option Line
line_of r = pick r.good (Some (record { before = r.before; word = word_so_far r; count = r.count })) None

-- ---- many bytes

-- The bytes of a line, one after the other.
unfoldable pub feed_all : List ℕ → Reading → List ℕ → Reading × List ℕ
feed_all [] r values = (r, values)
feed_all (b ∷ bs) r values = let f = feed r values b in feed_all bs f.0 f.1

-- From a place on, to a newline or to the end of what is there.
unfoldable pub scan : List ℕ → ℕ → Reading → List ℕ → Scanned × List ℕ
scan [] at r values = (record { line = r; at = at; ended = false }, values)
scan (b ∷ bs) at r values =
    let l = finish r values in
    let f = feed r values b in
    pick (eqb b 10) (record { line = l.0; at = at + 1; ended = true }, l.1) (scan bs (at + 1) f.0 f.1)

-- A line that has ended and can be read has a word: so `line_of` says what it is, and no line that the programs serve is one whose word is still coming.
-- Assumes nothing.
use Rattle.std.specs.Prelude.{Option, Some, None, is_none}
use mathlib.Core.Bool.{Bool, true, false, not, ◌||◌, true≢false, false≢true}
use mathlib.Core.List.{List}
use Prim.Native.Nat.{ℕ}
use mathlib.Core.Path.{◌≡◌, refl, sym, ◌∙◌}
use Rattle.base.specs.First.{pick}
use Rattle.dock.proofs.RetireLaws.{picked}
use Rattle.words.specs.Words.{word_of, form_of}
use Rattle.words.specs.declared.Word.{Word}
use Rattle.lines.specs.Reader.{bad, with_form_of, with_word_of, close_word, with_kept, close_number, close, complete, finish}
use Rattle.lines.specs.declared.Reading.{Reading}

abbrev Worded : Reading → Type 0
Worded r = r.good ≡ true → is_none r.word ≡ false

bad_worded : (r : Reading) → Worded (bad r)
bad_worded r g = absurd (false≢true g)

formed : (r : Reading) (w : Word) (f : Option ℕ) → Worded (with_form_of r w f)
formed r w None = bad_worded r
formed r w (Some f) = λ g. refl

named : (r : Reading) (w : Option Word) → Worded (with_word_of r w)
named r None = bad_worded r
named r (Some w) = formed r w (form_of r.full r.before w)

kept : (r : Reading) (values : List ℕ) (v : Option ℕ) → is_none r.word ≡ false → Worded (with_kept r values v).0
kept r values None word = bad_worded r
kept r values (Some v) word = λ g. word

-- A field that is no word stands behind one that has ended.
behind : (naming none : Bool) → (naming || none) ≡ false → none ≡ false
behind true none e = absurd (true≢false e)
behind false none e = e

closed : (r : Reading) (values : List ℕ) → Worded (close r values).0
unfolding close close_word close_number
closed r values =
    picked (λ (c : Reading × List ℕ). Worded c.0) (r.naming || is_none r.word) (close_word r, values) (close_number r values)
    (λ t. named r (word_of r.letters))
    (λ t. kept r values r.value (behind r.naming (is_none r.word) t))

not_good : (r : Reading) → not r.good ≡ true → Worded r
not_good r t g = absurd (true≢false (sym t ∙ inverted r.good g))
  where
    inverted : (b : Bool) → b ≡ true → not b ≡ false
    inverted true q = refl
    inverted false q = absurd (false≢true q)

pub finished_says : (r : Reading) (values : List ℕ) → (finish r values).0.good ≡ true → is_none (finish r values).0.word ≡ false
unfolding finish
finished_says r values =
    let c = close r values in
    picked (λ (x : Reading × List ℕ). Worded x.0) (not r.good) (r, values) (pick (complete c.0.form) c (bad c.0, c.1))
    (λ t. not_good r t)
    (λ t. picked (λ (x : Reading × List ℕ). Worded x.0) (complete c.0.form) c (bad c.0, c.1) (λ u. closed r values) (λ u. bad_worded c.0))

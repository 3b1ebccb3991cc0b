-- What stands on a page, and what was written out of it: nothing that is put on a page of at least one byte is lost, however long it is and whenever the
-- page is flushed.
-- Assumes nothing.
use Prim.Native.Nat.{ℕ, ◌+◌, ◌<◌}
use mathlib.Core.Bool.{Bool, true, false}
use mathlib.Core.List.{List, [], ◌∷◌, ◌++◌, append-nil, append_assoc}
use mathlib.Core.Path.{◌≡◌, refl, sym, ap, ◌∙◌}
use native.Mathlib.Numerals.{add-one}
use borrow.Author.Tests.{ltb-true}
use lib.Dec.{ltb}
use lib.ListN.{length, set, length-set}
use lib.Seq.{take-suc-set}
use Rattle.base.specs.First.{pick}
use Rattle.page.specs.Page.{Page, stands, put, put_all, spill, spilled, Move, text, flush, moved, written, texts}

-- Texts one behind the other.
pub put_both : (p : Page) (a b : List ℕ) → put_all (put_all p a) b ≡ put_all p (a ++ b)
unfolding put_all
put_both p [] b = refl
put_both p (x ∷ a) b = put_both (put p x) a b

-- A text behind another, from what each call says: q is p with a on it, and s is q with b on it.
pub then : (p : Page) {q s : Page} (a b : List ℕ) → q ≡ put_all p a → s ≡ put_all q b → s ≡ put_all p (a ++ b)
then p a b d e = e ∙ ap (λ (x : Page). put_all x b) d ∙ put_both p a b

-- A byte on a page that has room, or has none.
abbrev after : Page → ℕ → Bool → Page
after p b room = pick room (p.0 + 1, set p.1 p.0 b) (1, set p.1 0 b)

-- A page keeps its length.
put_length : (p : Page) (b : ℕ) → length (put p b).1 ≡ length p.1
unfolding put
put_length p b = by (ltb p.0 (length p.1))
  where
    by : (room : Bool) → length (after p b room).1 ≡ length p.1
    by true = length-set p.1 p.0 b
    by false = length-set p.1 0 b

pub all_length : (p : Page) (bs : List ℕ) → length (put_all p bs).1 ≡ length p.1
unfolding put_all
all_length p [] = refl
all_length p (b ∷ bs) = all_length (put p b) bs ∙ put_length p b

-- What one byte writes out, and what then stands on the page, are what stood there and the byte.
one_kept : (p : Page) (b : ℕ) → 0 < length p.1 → spill p ++ stands (put p b) ≡ stands p ++ (b ∷ [])
unfolding spill stands put
one_kept p b some = by (ltb p.0 (length p.1)) refl
  where
    by : (room : Bool) → ltb p.0 (length p.1) ≡ room → pick room [] (stands p) ++ stands (after p b room) ≡ stands p ++ (b ∷ [])
    by true e = rw (add-one p.0) (take-suc-set p.1 p.0 b (ltb-true p.0 (length p.1) e))
    by false e = ap (λ (l : List ℕ). stands p ++ l) (take-suc-set p.1 0 b some)

-- What was written out, followed by what stands on the page, is what stood on it followed by the bytes that were put: none is left out.
pub nothing_lost : (p : Page) (bs : List ℕ) → 0 < length p.1 → spilled p bs ++ stands (put_all p bs) ≡ stands p ++ bs
unfolding put_all spilled
nothing_lost p [] some = sym (append-nil (stands p))
nothing_lost p (b ∷ bs) some =
    append_assoc (spill p) (spilled (put p b) bs) (stands (put_all (put p b) bs))
    ∙ ap (λ (l : List ℕ). spill p ++ l) (nothing_lost (put p b) bs (rw (put_length p b) some))
    ∙ sym (append_assoc (spill p) (stands (put p b)) bs)
    ∙ ap (λ (l : List ℕ). l ++ bs) (one_kept p b some)
    ∙ append_assoc (stands p) (b ∷ []) bs

-- The same of any moves: texts put on the page, and flushes in between.
pub moves_kept : (p : Page) (ms : List Move) → 0 < length p.1 → written p ms ++ stands (moved p ms) ≡ stands p ++ texts ms
unfolding stands moved written texts
moves_kept p [] some = sym (append-nil (stands p))
moves_kept p (text bs ∷ ms) some =
    append_assoc (spilled p bs) (written (put_all p bs) ms) (stands (moved (put_all p bs) ms))
    ∙ ap (λ (l : List ℕ). spilled p bs ++ l) (moves_kept (put_all p bs) ms (rw (all_length p bs) some))
    ∙ sym (append_assoc (spilled p bs) (stands (put_all p bs)) (texts ms))
    ∙ ap (λ (l : List ℕ). l ++ texts ms) (nothing_lost p bs some)
    ∙ append_assoc (stands p) bs (texts ms)
moves_kept p (flush ∷ ms) some =
    append_assoc (stands p) (written (0, p.1) ms) (stands (moved (0, p.1) ms))
    ∙ ap (λ (l : List ℕ). stands p ++ l) (moves_kept (0, p.1) ms some)

-- So a run that begins with an empty page and ends with a flush writes its texts, whole and in order, and nothing else.
pub run_writes : (page : List ℕ) (ms : List Move) → 0 < length page → written (0, page) (ms ++ (flush ∷ [])) ≡ texts ms
unfolding stands moved written
run_writes page ms some = ends (0, page) ms ∙ moves_kept (0, page) ms some
  where
    ends : (p : Page) (ms : List Move) → written p (ms ++ (flush ∷ [])) ≡ written p ms ++ stands (moved p ms)
    ends p [] = append-nil (stands p)
    ends p (text bs ∷ ms) = ap (λ (l : List ℕ). spilled p bs ++ l) (ends (put_all p bs) ms) ∙ sym (append_assoc (spilled p bs) (written (put_all p bs) ms) (stands (moved (put_all p bs) ms)))
    ends p (flush ∷ ms) = ap (λ (l : List ℕ). stands p ++ l) (ends (0, p.1) ms) ∙ sym (append_assoc (stands p) (written (0, p.1) ms) (stands (moved (0, p.1) ms)))

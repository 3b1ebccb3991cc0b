-- The finished table: a place that is cleared is empty, an empty place that is filled has that event, a full one keeps its first, and no other
-- place changes. Assumes nothing.
use Rattle.std.specs.Prelude.{Option, Some, None}
use Prim.Native.Nat.{ℕ, ◌+◌, ◌*◌, ◌≤◌}
use mathlib.Core.List.{List}
use mathlib.Core.Path.{◌≡◌, refl, sym, ap, ◌∙◌}
use borrow.Author.Tests.{eq-eqb, ne_eqb}
use lib.Dec.{eqb}
use lib.ListN.{length, get_or}
use Rattle.base.specs.First.{pick}
use Rattle.trb.specs.Layouts.{words_at, put_words}
use Rattle.trb.specs.declared.Words.{Words}
use Rattle.trb.proofs.BlockLaws.{words_same, words_other}
use Rattle.finished.specs.Finished.{finished_at, clear_place, fill_place}

-- What four words say, as a place.
abbrev saying : Words → Option Words
saying w = pick (eqb w.w3 0) None (Some w)

-- A place says what its words say.
pub place_says : (l : List ℕ) (place : ℕ) → finished_at l place ≡ saying (words_at l place)
unfolding finished_at words_at
place_says l place = refl

module _ (l : List ℕ) (place : ℕ) (fits : 4 * place + 4 ≤ length l) where
  pub cleared : finished_at (clear_place l place) place ≡ None
  cleared = place_says (clear_place l place) place ∙ ap saying (words_same l place (record { w0 = 0; w1 = 0; w2 = 0; w3 = 0 }) fits)

  module _ (event : Words) where
    -- An empty place takes the event, which has a type in its fourth word.
    pub taken : get_or l (4 * place + 3) 0 ≡ 0 → (event.w3 ≡ 0 → ⊥) → finished_at (fill_place l place event) place ≡ Some event
    unfolding fill_place
    taken empty typed =
        simp (eq-eqb _ _ empty)
        (place_says (put_words l place event) place ∙ ap saying (words_same l place event fits) ∙ rw (ne_eqb event.w3 0 typed))

    -- A full place keeps its first.
    pub kept : (get_or l (4 * place + 3) 0 ≡ 0 → ⊥) → fill_place l place event ≡ l
    unfolding fill_place
    kept full = simp (ne_eqb _ _ full)

    -- Whatever is put into a place, every other place says what it said.
    pub others_kept : (other : ℕ) → (other ≡ place → ⊥) → finished_at (put_words l place event) other ≡ finished_at l other
    others_kept other differs =
        place_says (put_words l place event) other ∙ ap saying (words_other l place event fits other differs) ∙ sym (place_says l other)

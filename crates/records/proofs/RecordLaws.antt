-- A record that is put is read back as it is, every other record as it was, and a word that is set is the only one that changes.
-- Assumes nothing.
use Prim.Native.Nat.{ℕ, ◌+◌, ◌-◌, ◌*◌, ◌≤◌, ◌<◌}
use mathlib.Core.Bool.{Bool, true, false}
use mathlib.Core.List.{List}
use mathlib.Core.Logic.{⊎_elim}
use mathlib.Core.Path.{◌≡◌, refl, sym, ◌∙◌, ap}
use native.Mathlib.Omega.{arith}
use borrow.Author.Tests.{ltb-true}
use lib.Dec.{ltb}
use lib.ListN.{length, get_or, take, drop, length-set}
use lib.Seq.{get_or-set_same, get_or-set_other, get_or-take, get_or-drop}
use Rattle.base.specs.Fields.{flag}
use Rattle.base.specs.First.{pick}
use Rattle.base.specs.Part.{put}
use Rattle.base.proofs.Compare.{compared}
use Rattle.base.proofs.Lent.{put_same, put_before, put_behind}
use Rattle.sizes.specs.Sizes.{record_words}
use Rattle.ids.specs.Free.{id_at}
use Rattle.records.specs.Records.{word_at, is_set, record_of, part_of, record_at, record_list, set_word}
use Rattle.records.specs.declared.Record.{Record}

-- ---- a record by its words

-- A row cut behind the words of a record says the same.
abbrev cut : (ℕ → ℕ) → ℕ → ℕ
cut f k = pick (ltb k record_words) (f k) 0

cut_same : (f g : ℕ → ℕ) → ((k : ℕ) → k < record_words → f k ≡ g k) → (k : ℕ) (b : Bool) → ltb k record_words ≡ b → cut f k ≡ cut g k
cut_same f g e k true h = rw h (e k (ltb-true _ _ h))
cut_same f g e k false h = rw h

-- A record says what its words say, wherever they stand.
same_record : (f g : ℕ → ℕ) → ((k : ℕ) → k < record_words → f k ≡ g k) → record_of f ≡ record_of g
same_record f g e = ap record_of (λ i k. cut_same f g e k (ltb k record_words) refl i)

by_words : (l : List ℕ) (r : ℕ) → record_at l r ≡ record_of (word_at l r)
unfolding record_at
by_words l r = refl

-- The id of a record is its first word, by which the id search goes.
pub id_is : (l : List ℕ) (r : ℕ) → (record_at l r).id ≡ id_at l r
unfolding record_at
id_is l r = let start : record_words * r + 0 ≡ record_words * r = omega arith in rw start

-- The part of record r, its words alone, is record r.
pub of_part : (l : List ℕ) (r : ℕ) → record_of (part_of (take (record_words * r + record_words - record_words * r) (drop (record_words * r) l))) ≡ record_at l r
of_part l r =
    let size : record_words * r + record_words - record_words * r ≡ record_words = omega arith in
    rw size
    (same_record (λ k. get_or (take record_words (drop (record_words * r) l)) k 0) (word_at l r) (λ k h. get_or-take record_words (drop (record_words * r) l) k 0 h ∙ get_or-drop (record_words * r) l k 0)
    ∙ sym (by_words l r))

-- A flag is read back from its word.
pub flag_set : (b : Bool) → is_set (flag b) ≡ b
flag_set true = refl
flag_set false = refl

-- The words of a record make that record.
of_list : (v : Record) → record_of (part_of (record_list v)) ≡ v
of_list v = rw (flag_set v.incoming, flag_set v.cancelled)

-- ---- a record that is put

module _ (l : List ℕ) (r : ℕ) (v : Record) (fits : record_words * r + record_words ≤ length l) where
  pub record_put : record_at (put record_words l r (record_list v)) r ≡ v
  record_put =
      by_words (put record_words l r (record_list v)) r
      ∙ same_record (word_at (put record_words l r (record_list v)) r) (λ k. get_or (record_list v) k 0) (put_same record_words l r (record_list v) refl fits)
      ∙ of_list v

  pub record_other : (s : ℕ) → (s ≡ r → ⊥) → record_at (put record_words l r (record_list v)) s ≡ record_at l s
  record_other s differs =
      by_words (put record_words l r (record_list v)) s
      ∙ same_record (word_at (put record_words l r (record_list v)) s) (word_at l s) other
      ∙ sym (by_words l s)
    where
      other : (k : ℕ) → k < record_words → word_at (put record_words l r (record_list v)) s k ≡ word_at l s k
      other k h =
          ⊎_elim
          (λ (e : s ≡ r). absurd (differs e))
          (⊎_elim
          (λ (b : s < r). put_before record_words l r (record_list v) refl fits (record_words * s + k) (omega arith))
          (λ (b : r < s). put_behind record_words l r (record_list v) refl fits (record_words * s + k) (omega arith)))
          (compared s r)

-- ---- one word of a record

module _ (l : List ℕ) (r k value : ℕ) where
  pub word_set : record_words * r + k < length l → word_at (set_word l r k value) r k ≡ value
  unfolding set_word
  word_set fits = get_or-set_same l (record_words * r + k) value 0 fits

  pub word_kept : (s j : ℕ) → (record_words * s + j ≡ record_words * r + k → ⊥) → word_at (set_word l r k value) s j ≡ word_at l s j
  unfolding set_word
  word_kept s j differs = get_or-set_other l (record_words * r + k) (record_words * s + j) value 0 differs

  pub set_length : length (set_word l r k value) ≡ length l
  unfolding set_word
  set_length = length-set l (record_words * r + k) value

  -- Every other record is as it was.
  pub set_other : (s : ℕ) → k < record_words → (s ≡ r → ⊥) → record_at (set_word l r k value) s ≡ record_at l s
  set_other s small differs =
      by_words (set_word l r k value) s
      ∙ same_record (word_at (set_word l r k value) s) (word_at l s) (λ j h. word_kept s j (λ e. differs (omega arith)))
      ∙ sym (by_words l s)

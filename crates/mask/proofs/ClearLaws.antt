-- The lowest clear bit is unique, one mask has it at the trailing zeros of its complement, and a table of masks at the first mask that is
-- not full; a store to one mask of a table changes one bit of its row. Assumes nothing.
use Rattle.std.specs.Prelude.{Option, Some, None}
use mathlib.Core.Path.{◌≡◌, refl, sym, ap, ◌∙◌}
use mathlib.Core.Logic.{⊎_elim}
use mathlib.Core.List.{List}
use Prim.Native.Nat.{ℕ, suc, ◌+◌, ◌-◌, ◌*◌, ◌/◌, ◌%◌, ◌^◌, ◌≤◌, ◌<◌}
use native.Mathlib.Omega.{arith}
use lib.ListN.{length, get_or, set}
use lib.Seq.{get_or-set_same, get_or-set_other}
use lib.Count.{count_trailing_zeros}
use Rattle.base.proofs.Compare.{lt_or_le, same_or_not}
use Rattle.mask.specs.Bit.{bit, BitIs}
use Rattle.mask.specs.Clear.{LowestClear, Answers, table_bit}
use Rattle.mask.proofs.BitLaws.{bit_lt, bit_not, trailing_clear, trailing_set}

-- ---- any row of bits

-- a lowest clear bit is not above another
lowest_le : (n : ℕ) (f : ℕ → ℕ) (i j : ℕ) → LowestClear n f i → LowestClear n f j → i ≤ j
lowest_le n f i j p q =
    ⊎_elim (λ (l : j < i). omega (arith, p.lower j l, q.clear)) (λ (l : i ≤ j). l) (lt_or_le j i)

-- so an answer is the only one
pub answer_unique : (n : ℕ) (f : ℕ → ℕ) (a b : Option ℕ) → Answers n f a → Answers n f b → a ≡ b
answer_unique n f (Some i) (Some j) p q =
    let e : i ≡ j = omega (arith, lowest_le n f i j p q, lowest_le n f j i q p) in ap Some e
answer_unique n f (Some i) None p q = absurd (omega (arith, q i p.within, p.clear))
answer_unique n f None (Some j) p q = absurd (omega (arith, p j q.within, q.clear))
answer_unique n f None None p q = refl

-- ---- one mask of n bits: the count c of the trailing zeros of its complement

module _ (n m : ℕ) (fits : m < 2 ^ n) where
  pub mask_lower : (k : ℕ) → k < n → k < count_trailing_zeros n (2 ^ n - 1 - m) → bit m k ≡ 1
  mask_lower k h l = omega (arith, trailing_clear n (2 ^ n - 1 - m) k l, bit_not n m k fits h, bit_lt m k)

  pub mask_at : (c : ℕ) → c ≡ count_trailing_zeros n (2 ^ n - 1 - m) → c < n → LowestClear n (bit m) c
  mask_at c e h = record {
    within = h;
    clear = omega (arith, ap (bit (2 ^ n - 1 - m)) e, trailing_set n (2 ^ n - 1 - m) (omega arith), bit_not n m c fits h, bit_lt m c);
    lower = λ k l. mask_lower k (omega arith) (omega arith);
  }

  pub mask_full : n ≤ count_trailing_zeros n (2 ^ n - 1 - m) → (k : ℕ) → k < n → bit m k ≡ 1
  mask_full h k l = mask_lower k l (omega arith)

-- ---- a table of masks of 64 bits each: mask j has the bits 64 j to 64 j + 63

pub table_at : (ms : List ℕ) (j k : ℕ) → k < 64 → table_bit ms (64 * j + k) ≡ bit (get_or ms j 0) k
unfolding table_bit
table_at ms j k l =
    let q : (64 * j + k) / 64 ≡ j = omega arith in
    let r : (64 * j + k) % 64 ≡ k = omega arith in
    rw (q, r)

-- all bits below those of mask j are set
abbrev pub FullBelow : List ℕ → ℕ → Type 0
FullBelow ms j = (k : ℕ) → k < 64 * j → table_bit ms k ≡ 1

pub full_none : (ms : List ℕ) → FullBelow ms 0
full_none ms k l = omega arith

-- a full mask more
pub full_more : (ms : List ℕ) (j : ℕ) → FullBelow ms j → ((k : ℕ) → k < 64 → bit (get_or ms j 0) k ≡ 1) → FullBelow ms (suc j)
full_more ms j below here k l =
    ⊎_elim
    (λ (h : k < 64 * j). below k h)
    (λ (h : 64 * j ≤ k).
    let e : 64 * j + (k - 64 * j) ≡ k = omega arith in
    let s : k - 64 * j < 64 = omega arith in
    sym (ap (table_bit ms) e) ∙ table_at ms j (k - 64 * j) s ∙ here (k - 64 * j) s)
    (lt_or_le k (64 * j))

-- the first mask that is not full answers
pub table_found : (n : ℕ) (ms : List ℕ) (j i at : ℕ) → at ≡ 64 * j + i → 64 * j + 64 ≤ n → FullBelow ms j → LowestClear 64 (bit (get_or ms j 0)) i
    → LowestClear n (table_bit ms) at
table_found n ms j i at e room below here = record {
  within = omega (arith, here.within);
  clear = ap (table_bit ms) e ∙ table_at ms j i here.within ∙ here.clear;
  lower = λ k l. ⊎_elim
      (λ (h : k < 64 * j). below k h)
      (λ (h : 64 * j ≤ k).
      let q : 64 * j + (k - 64 * j) ≡ k = omega arith in
      let s : k - 64 * j < i = omega arith in
      sym (ap (table_bit ms) q) ∙ table_at ms j (k - 64 * j) (omega (arith, here.within)) ∙ here.lower (k - 64 * j) s)
      (lt_or_le k (64 * j));
}

-- each bit of a table is 0 or 1
pub table_lt : (ms : List ℕ) (k : ℕ) → table_bit ms k < 2
unfolding table_bit
table_lt ms k = bit_lt (get_or ms (k / 64) 0) (k % 64)

-- a store to mask j that changes its bit i changes bit 64 j + i of the table, and no other
module _ (ms : List ℕ) (j i v x : ℕ) (h : j < length ms) (l : i < 64) (b : BitIs (bit (get_or ms j 0)) i v (bit x)) where
  others_kept : (k : ℕ) → (k ≡ 64 * j + i → ⊥) → table_bit (set ms j x) k ≡ table_bit ms k
  unfolding table_bit
  others_kept k n =
      ⊎_elim
      (λ (e : k / 64 ≡ j). rw (e, get_or-set_same ms j x 0 h) (b.others (k % 64) (λ q. n (omega arith))))
      (λ (d : k / 64 ≡ j → ⊥). ap (λ (m : ℕ). bit m (k % 64)) (get_or-set_other ms j (k / 64) x 0 d))
      (same_or_not (k / 64) j)

  pub table_store : BitIs (table_bit ms) (64 * j + i) v (table_bit (set ms j x))
  table_store = record {
    here = table_at (set ms j x) j i l ∙ ap (λ (m : ℕ). bit m i) (get_or-set_same ms j x 0 h) ∙ b.here;
    others = others_kept;
  }

-- Taking a record makes the count of held records one more and adds its number to their sum, and freeing it takes both off. Assumes nothing.
use mathlib.Core.Path.{◌≡◌, refl, sym, ap, ap₂, ◌∙◌}
use mathlib.Core.Logic.{⊎_elim}
use Prim.Native.Nat.{ℕ, zero, suc, ◌+◌, ◌*◌, ◌≤◌, ◌<◌}
use native.Mathlib.Nat.{eq-or-lt_of_le, le_of_suc-le-suc, zero-mul, one-mul}
use native.Mathlib.Omega.{arith}
use Rattle.mask.specs.Bit.{sum, held_in, held_part, held_sum, BitIs}

-- rows that agree have one sum
pub sum_same : (n : ℕ) (f g : ℕ → ℕ) → ((k : ℕ) → k < n → f k ≡ g k) → sum n f ≡ sum n g
unfolding sum
sum_same zero f g same = refl
sum_same (suc n) f g same = omega (arith, sum_same n f g (λ k l. same k (omega arith)), same n (omega arith))

-- rows that agree but at i: the sums differ by what stands there
pub sum_change : (n i : ℕ) (f g : ℕ → ℕ) → i < n → ((k : ℕ) → k < n → (k ≡ i → ⊥) → f k ≡ g k) → sum n f + g i ≡ sum n g + f i
unfolding sum
sum_change zero i f g l same = omega arith
sum_change (suc n) i f g l same =
    ⊎_elim
    (λ (e : i ≡ n).
    omega (arith, sum_same n f g (λ k h. same k (omega arith) (λ d. omega arith)), ap f e, ap g e))
    (λ (h : i < n).
    omega (arith, sum_change n i f g h (λ k j d. same k (omega arith) d), same n (omega arith) (λ d. omega arith)))
    (eq-or-lt_of_le (le_of_suc-le-suc l))

-- each term at most 1: the sum is at most n
pub sum_le : (n : ℕ) (f : ℕ → ℕ) → ((k : ℕ) → k < n → f k ≤ 1) → sum n f ≤ n
unfolding sum
sum_le zero f h = omega arith
sum_le (suc n) f h = omega (arith, sum_le n f (λ k l. h k (omega arith)), h n (omega arith))

-- no term is above the sum
pub sum_one : (n i : ℕ) (f : ℕ → ℕ) → i < n → f i ≤ sum n f
unfolding sum
sum_one zero i f l = absurd (omega arith)
sum_one (suc n) i f l =
    ⊎_elim
    (λ (e : i ≡ n). omega (arith, ap f e))
    (λ (h : i < n). omega (arith, sum_one n i f h))
    (eq-or-lt_of_le (le_of_suc-le-suc l))

-- a row that is nowhere above another, and below it at i, has the smaller sum
pub sum_mono : (n : ℕ) (f g : ℕ → ℕ) → ((k : ℕ) → k < n → f k ≤ g k) → sum n f ≤ sum n g
unfolding sum
sum_mono zero f g h = omega arith
sum_mono (suc n) f g h = omega (arith, sum_mono n f g (λ k l. h k (omega arith)), h n (omega arith))

pub sum_less : (n i : ℕ) (f g : ℕ → ℕ) → i < n → f i < g i → ((k : ℕ) → k < n → f k ≤ g k) → sum n f < sum n g
unfolding sum
sum_less zero i f g l s h = omega arith
sum_less (suc n) i f g l s h =
    ⊎_elim
    (λ (e : i ≡ n). omega (arith, sum_mono n f g (λ k j. h k (omega arith)), ap f e, ap g e))
    (λ (j : i < n). omega (arith, sum_less n i f g j s (λ k q. h k (omega arith)), h n (omega arith)))
    (eq-or-lt_of_le (le_of_suc-le-suc l))

-- ---- the number of held records, of any n, where a row f of bits becomes the row g

pub held_le : (n : ℕ) (f : ℕ → ℕ) → ((k : ℕ) → f k < 2) → held_in n f ≤ n
held_le n f two = sum_le n f (λ k l. omega (arith, two k))

-- what one record adds to the sum of the held records
part_free : (f w : ℕ → ℕ) (k : ℕ) → f k ≡ 0 → held_part f w k ≡ 0
unfolding held_part
part_free f w k e = ap (λ (x : ℕ). x * w k) e ∙ zero-mul (w k)

part_held : (f w : ℕ → ℕ) (k : ℕ) → f k ≡ 1 → held_part f w k ≡ w k
unfolding held_part
part_held f w k e = ap (λ (x : ℕ). x * w k) e ∙ one-mul (w k)

module _ (n i : ℕ) (f g : ℕ → ℕ) (l : i < n) where
  -- setting bit i to v
  pub held_change : (v : ℕ) → BitIs f i v g → held_in n g + f i ≡ held_in n f + v
  held_change v b = omega (arith, sum_change n i f g l (λ k j d. sym (b.others k d)), b.here)

  -- taking a free record: one more is held
  pub taken_one_more : f i ≡ 0 → BitIs f i 1 g → held_in n g ≡ held_in n f + 1
  taken_one_more e b = omega (arith, held_change 1 b)

  -- freeing a held record: one less is held
  pub freed_one_less : f i ≡ 1 → BitIs f i 0 g → held_in n g + 1 ≡ held_in n f
  freed_one_less e b = omega (arith, held_change 0 b)

  -- the same of a number for each record, as the TRBs of a request, where bit i is set to v, u i is the new number there, and the others' are kept
  pub held_sum_change : (v : ℕ) (w u : ℕ → ℕ) → BitIs f i v g → ((k : ℕ) → (k ≡ i → ⊥) → u k ≡ w k)
      → held_sum n g u + held_part f w i ≡ held_sum n f w + held_part g u i
  unfolding held_part
  held_sum_change v w u b kept =
      sym (sum_change n i (held_part f w) (held_part g u) l (λ k j d. ap₂ (λ (x y : ℕ). x * y) (sym (b.others k d)) (sym (kept k d))))

  -- taking record i adds its number
  pub taken_adds : (w u : ℕ → ℕ) → f i ≡ 0 → BitIs f i 1 g → ((k : ℕ) → (k ≡ i → ⊥) → u k ≡ w k) → held_sum n g u ≡ held_sum n f w + u i
  taken_adds w u e b kept = omega (arith, held_sum_change 1 w u b kept, part_free f w i e, part_held g u i b.here)

  -- freeing record i takes its number off
  pub freed_takes : (w : ℕ → ℕ) → f i ≡ 1 → BitIs f i 0 g → held_sum n g w + w i ≡ held_sum n f w
  freed_takes w e b = omega (arith, held_sum_change 0 w w b (λ k d. refl), part_held f w i e, part_free g w i b.here)

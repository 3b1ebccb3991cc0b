-- The computed definitions are what the properties say: `lowest_clear` answers, `set_bit` and `clear_bit` change one bit. Assumes nothing.
use Rattle.std.specs.Prelude.{Option, Some}
use mathlib.Core.Path.{◌≡◌, refl, sym, ap, ◌∙◌, subst}
use mathlib.Core.Logic.{⊎_elim}
use Prim.Native.Nat.{ℕ, zero, suc, ◌+◌, ◌-◌, ◌*◌, ◌/◌, ◌%◌, ◌^◌, ◌≤◌, ◌<◌}
use native.Mathlib.Nat.{pow-suc, mul_assoc, eq-zero-or-pos, eq-or-lt_of_le, le_of_suc-le-suc}
use native.Mathlib.Omega.{arith}
use borrow.Author.Tests.{eq-eqb, ne_eqb}
use lib.Pow.{pow-lt}
use lib.Bits.{bit_and, bit_or, or_lt, and_lt}
use Rattle.mask.specs.Bit.{bit, BitIs}
use Rattle.mask.specs.Clear.{Answers}
use Rattle.mask.specs.Compute.{clear_from, lowest_clear, set_bit, clear_bit}
use Rattle.mask.proofs.BitLaws.{bit_zero, bit_suc, bit_lt, digit, shifted_one, or_is, and_is, bit_unique}
use Rattle.mask.proofs.ClearLaws.{answer_unique}

-- ---- the lowest clear bit

here_clear : (n : ℕ) (f : ℕ → ℕ) (i : ℕ) → f i ≡ 0 → clear_from (suc n) f i ≡ Some i
unfolding clear_from
here_clear n f i e = rw (eq-eqb (f i) 0 e, clear_from)

here_set : (n : ℕ) (f : ℕ → ℕ) (i : ℕ) → (f i ≡ 0 → ⊥) → clear_from (suc n) f i ≡ clear_from n f (suc i)
unfolding clear_from
here_set n f i e = rw (ne_eqb (f i) 0 e, clear_from)

-- with the bits below i set and n bits to look at, the answer is right for i + n bits
from : (n : ℕ) (f : ℕ → ℕ) (i : ℕ) → ((k : ℕ) → f k < 2) → ((k : ℕ) → k < i → f k ≡ 1) → Answers (i + n) f (clear_from n f i)
unfolding clear_from
from zero f i two below = λ k l. below k (omega arith)
from (suc n) f i two below =
    ⊎_elim
    (λ (e : f i ≡ 0). subst (Answers (i + suc n) f) (sym (here_clear n f i e)) (record { within = omega arith; clear = e; lower = below }))
    (λ (p : 0 < f i).
    let one : f i ≡ 1 = omega (arith, two i) in
    let s : suc i + n ≡ i + suc n = omega arith in
    subst (λ (m : ℕ). Answers m f (clear_from (suc n) f i)) s
    (subst (Answers (suc i + n) f) (sym (here_set n f i (λ z. omega arith))) (from n f (suc i) two (more one))))
    (eq-zero-or-pos (f i))
  where
    more : f i ≡ 1 → (k : ℕ) → k < suc i → f k ≡ 1
    more one k l = ⊎_elim (λ (e : k ≡ i). ap f e ∙ one) (λ (h : k < i). below k h) (eq-or-lt_of_le (le_of_suc-le-suc l))

-- a search of n bits of any row answers
pub search_answers : (n : ℕ) (f : ℕ → ℕ) → ((k : ℕ) → f k < 2) → Answers n f (clear_from n f 0)
search_answers n f two =
    let s : 0 + n ≡ n = omega arith in
    subst (λ (m : ℕ). Answers m f (clear_from n f 0)) s (from n f 0 two (λ k l. absurd (omega arith)))

pub lowest_answers : (m : ℕ) → Answers 64 (bit m) (lowest_clear m)
unfolding lowest_clear
lowest_answers m = search_answers 64 (bit m) (bit_lt m)

-- so what has the property is the definition's answer
pub search_computed : (n : ℕ) (f : ℕ → ℕ) → ((k : ℕ) → f k < 2) → (r : Option ℕ) → Answers n f r → r ≡ clear_from n f 0
search_computed n f two r a = answer_unique n f r (clear_from n f 0) a (search_answers n f two)

pub lowest_computed : (m : ℕ) (r : Option ℕ) → Answers 64 (bit m) r → r ≡ lowest_clear m
unfolding lowest_clear
lowest_computed m r a = search_computed 64 (bit m) (bit_lt m) r a

-- ---- one bit changed: in the lowest place, and one place up

module _ (q d : ℕ) (h : d < 2) where
  low : bit (q * 2 + d) 0 ≡ d
  low = bit_zero (q * 2 + d) ∙ digit q d h

  high : (k : ℕ) → bit (q * 2 + d) (suc k) ≡ bit q k
  high k = let e : (q * 2 + d) / 2 ≡ q = omega arith in bit_suc (q * 2 + d) k ∙ ap (λ (x : ℕ). bit x k) e

bottom : (m v : ℕ) → v < 2 → BitIs (bit m) 0 v (bit (m / 2 * 2 + v))
bottom m v h = record { here = low (m / 2) v h; others = other }
  where
    other : (k : ℕ) → (k ≡ 0 → ⊥) → bit (m / 2 * 2 + v) k ≡ bit m k
    other zero n = absurd (n refl)
    other (suc k) n = high (m / 2) v h k ∙ sym (bit_suc m k)

up : (m i v q : ℕ) → BitIs (bit (m / 2)) i v (bit q) → BitIs (bit m) (suc i) v (bit (q * 2 + m % 2))
up m i v q b = record { here = high q (m % 2) (omega arith) i ∙ b.here; others = other }
  where
    other : (k : ℕ) → (k ≡ suc i → ⊥) → bit (q * 2 + m % 2) k ≡ bit m k
    other zero n = low q (m % 2) (omega arith) ∙ sym (bit_zero m)
    other (suc k) n = high q (m % 2) (omega arith) k ∙ b.others k (λ e. n (ap suc e)) ∙ sym (bit_suc m k)

-- ---- setting a bit

set_zero : (m : ℕ) → set_bit m 0 ≡ m / 2 * 2 + 1
unfolding set_bit
set_zero m = rw (bit_zero m) (omega arith)

set_suc : (m i : ℕ) → set_bit m (suc i) ≡ set_bit (m / 2) i * 2 + m % 2
unfolding set_bit
set_suc m i = rw (bit_suc m i, pow-suc 2 i) (omega (arith, mul_assoc (1 - bit (m / 2) i) (2 ^ i) 2))

pub set_is : (m i : ℕ) → BitIs (bit m) i 1 (bit (set_bit m i))
set_is m zero = rw (set_zero m) (bottom m 1 (omega arith))
set_is m (suc i) = rw (set_suc m i) (up m i 1 (set_bit (m / 2) i) (set_is (m / 2) i))

-- a mask of n bits stays one
pub set_lt : (n m i : ℕ) → i < n → m < 2 ^ n → set_bit m i < 2 ^ n
set_lt zero m i h f = absurd (omega arith)
set_lt (suc n) m zero h f = rw (pow-suc 2 n) (omega (arith, set_zero m, rw (pow-suc 2 n) at f))
set_lt (suc n) m (suc i) h f =
    let g : m < 2 ^ n * 2 = rw (pow-suc 2 n) at f in
    rw (pow-suc 2 n) (omega (arith, set_suc m i, set_lt n (m / 2) i (omega arith) (omega arith)))

-- `m | (1 << i)`
pub or_sets : (m i : ℕ) → i < 64 → m < 2 ^ 64 → bit_or m (1 * 2 ^ i % 2 ^ 64) ≡ set_bit m i
or_sets m i h f =
    rw (shifted_one i h) (bit_unique (bit m) i 1 _ _ (or_lt 64 m (2 ^ i) f (pow-lt h)) (set_lt 64 m i h f) (or_is m i) (set_is m i))

-- ---- clearing a bit

part_le : (m i : ℕ) → bit m i * 2 ^ i ≤ m
part_le m zero = rw (bit_zero m) (omega arith)
part_le m (suc i) = rw (bit_suc m i, pow-suc 2 i) (omega (arith, mul_assoc (bit (m / 2) i) (2 ^ i) 2, part_le (m / 2) i))

clear_zero : (m : ℕ) → clear_bit m 0 ≡ m / 2 * 2 + 0
unfolding clear_bit
clear_zero m = rw (bit_zero m) (omega arith)

clear_suc : (m i : ℕ) → clear_bit m (suc i) ≡ clear_bit (m / 2) i * 2 + m % 2
unfolding clear_bit
clear_suc m i = rw (bit_suc m i, pow-suc 2 i) (omega (arith, mul_assoc (bit (m / 2) i) (2 ^ i) 2, part_le (m / 2) i))

pub clear_is : (m i : ℕ) → BitIs (bit m) i 0 (bit (clear_bit m i))
clear_is m zero = rw (clear_zero m) (bottom m 0 (omega arith))
clear_is m (suc i) = rw (clear_suc m i) (up m i 0 (clear_bit (m / 2) i) (clear_is (m / 2) i))

pub clear_le : (m i : ℕ) → clear_bit m i ≤ m
unfolding clear_bit
clear_le m i = omega arith

pub clear_lt : (n m i : ℕ) → m < 2 ^ n → clear_bit m i < 2 ^ n
clear_lt n m i f = omega (arith, clear_le m i)

-- `m & !(1 << i)`
pub and_clears : (m i : ℕ) → i < 64 → m < 2 ^ 64 → bit_and m (2 ^ 64 - 1 - 1 * 2 ^ i % 2 ^ 64) ≡ clear_bit m i
and_clears m i h f =
    rw (shifted_one i h)
    (bit_unique (bit m) i 0 _ _ (and_lt 64 m (2 ^ 64 - 1 - 2 ^ i) f (omega arith)) (clear_lt 64 m i f) (and_is m i h f) (clear_is m i))

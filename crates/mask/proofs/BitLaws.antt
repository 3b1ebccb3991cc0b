-- The bits of a number: of its complement, of `a | b`, `a & b` and `1 << i`, and that equal bits make equal numbers. Assumes nothing.
use mathlib.Core.Path.{◌≡◌, refl, sym, ap, ◌∙◌}
use Prim.Native.Nat.{ℕ, zero, suc, ◌+◌, ◌-◌, ◌*◌, ◌/◌, ◌%◌, ◌^◌, ◌<◌, ◌≤◌, min, max}
use mathlib.Core.Logic.{◌⊎◌, inl, inr, ⊎_elim}
use native.Mathlib.Nat.{pow-suc, div-one, one-mul, eq-zero-or-pos}
use native.Mathlib.Numerals.{one-add}
use native.Mathlib.Omega.{arith}
use lib.Pow.{shr-shr, shl_exact, pow-lt}
use lib.Bits.{bit_and, bit_or, and_step, or_step, and_shr, or_shr, and_mask}
use lib.Count.{count_trailing_zeros, under}
use lib.Dec.{lit<}
use Rattle.base.proofs.Compare.{lt_or_le, same_or_not}
use Rattle.mask.specs.Bit.{bit, BitIs}

-- ---- the lowest bit, and the bits above it

pub bit_zero : (m : ℕ) → bit m 0 ≡ m % 2
unfolding bit
bit_zero m = ap (λ (x : ℕ). x % 2) (div-one m)

pub bit_suc : (m k : ℕ) → bit m (suc k) ≡ bit (m / 2) k
unfolding bit
bit_suc m k = ap (λ (x : ℕ). x % 2) (ap (λ (j : ℕ). m / 2 ^ j) (sym (one-add k)) ∙ sym (shr-shr m 1 k))

-- the lowest digit of a number that is put together
pub digit : (q d : ℕ) → d < 2 → (q * 2 + d) % 2 ≡ d
digit q d h = omega arith

twice : (p : ℕ) → p * 2 / 2 ≡ p
twice p = omega arith

even_or_odd : (a : ℕ) → (a % 2 ≡ 0) ⊎ (a % 2 ≡ 1)
even_or_odd a = ⊎_elim inl (λ l. inr (omega arith)) (eq-zero-or-pos (a % 2))

pub bit_lt : (m k : ℕ) → bit m k < 2
unfolding bit
bit_lt m k = omega arith

-- ---- the bits of a complement of n bits

not_half : (p m : ℕ) → m < p * 2 → (p * 2 - 1 - m) / 2 ≡ p - 1 - m / 2
not_half p m h = omega arith

not_odd : (p m : ℕ) → m < p * 2 → (p * 2 - 1 - m) % 2 ≡ 1 - m % 2
not_odd p m h = omega arith

pub bit_not : (n m k : ℕ) → m < 2 ^ n → k < n → bit (2 ^ n - 1 - m) k ≡ 1 - bit m k
bit_not zero m k h l = omega arith
bit_not (suc n) m zero h l =
    rw (bit_zero (2 ^ suc n - 1 - m), bit_zero m, pow-suc 2 n) (not_odd (2 ^ n) m (rw (pow-suc 2 n) at h))
bit_not (suc n) m (suc k) h l =
    let g : m < 2 ^ n * 2 = rw (pow-suc 2 n) at h in
    let d : m / 2 < 2 ^ n = omega arith in
    let e : k < n = omega arith in
    rw (bit_suc (2 ^ suc n - 1 - m) k, bit_suc m k, pow-suc 2 n, not_half (2 ^ n) m g) (bit_not n (m / 2) k d e)

-- ---- the bits of `a | b` and of `a & b`

pub bit_or_lem : (a b k : ℕ) → bit (bit_or a b) k ≡ max (bit a k) (bit b k)
bit_or_lem a b zero =
    rw (bit_zero (bit_or a b), bit_zero a, bit_zero b, or_step a b) (digit (bit_or (a / 2) (b / 2)) (max (a % 2) (b % 2)) (omega arith))
bit_or_lem a b (suc k) =
    rw (bit_suc (bit_or a b) k, bit_suc a k, bit_suc b k, or_shr a b 1) (bit_or_lem (a / 2) (b / 2) k)

pub bit_and_lem : (a b k : ℕ) → bit (bit_and a b) k ≡ min (bit a k) (bit b k)
bit_and_lem a b zero =
    rw (bit_zero (bit_and a b), bit_zero a, bit_zero b, and_step a b) (digit (bit_and (a / 2) (b / 2)) (min (a % 2) (b % 2)) (omega arith))
bit_and_lem a b (suc k) =
    rw (bit_suc (bit_and a b) k, bit_suc a k, bit_suc b k, and_shr a b 1) (bit_and_lem (a / 2) (b / 2) k)

-- ---- the bits of `1 << i`

pub bit_one : (i : ℕ) → bit (2 ^ i) i ≡ 1
bit_one zero = bit_zero 1
bit_one (suc i) = rw (bit_suc (2 ^ suc i) i, pow-suc 2 i, twice (2 ^ i)) (bit_one i)

pub bit_none : (k : ℕ) → bit 0 k ≡ 0
bit_none zero = bit_zero 0
bit_none (suc k) = rw (bit_suc 0 k) (bit_none k)

pub bit_other : (i k : ℕ) → (k ≡ i → ⊥) → bit (2 ^ i) k ≡ 0
bit_other zero zero n = absurd (n refl)
bit_other zero (suc k) n = rw (bit_suc 1 k) (bit_none k)
bit_other (suc i) zero n = rw (bit_zero (2 ^ suc i), pow-suc 2 i) (omega arith)
bit_other (suc i) (suc k) n =
    rw (bit_suc (2 ^ suc i) k, pow-suc 2 i, twice (2 ^ i)) (bit_other i k (λ e. n (ap suc e)))

-- ---- the trailing zeros of n digits: below the count every bit is clear, and at the count, where it is below n, the bit is set

under_zero : (d t : ℕ) → d ≡ 0 → under d t ≡ suc t
under_zero d t e = rw e

under_one : (d t : ℕ) → d ≡ 1 → under d t ≡ 0
under_one d t e = rw e

pub trailing_clear : (n a k : ℕ) → k < count_trailing_zeros n a → bit a k ≡ 0
unfolding count_trailing_zeros
trailing_clear zero a k l = omega arith
trailing_clear (suc n) a zero l = ⊎_elim (λ e. bit_zero a ∙ e) (λ e. omega (arith, under_one (a % 2) (count_trailing_zeros n (a / 2)) e)) (even_or_odd a)
trailing_clear (suc n) a (suc k) l =
    ⊎_elim
    (λ e. bit_suc a k ∙ trailing_clear n (a / 2) k (omega (arith, under_zero (a % 2) (count_trailing_zeros n (a / 2)) e)))
    (λ e. omega (arith, under_one (a % 2) (count_trailing_zeros n (a / 2)) e))
    (even_or_odd a)

pub trailing_set : (n a : ℕ) → count_trailing_zeros n a < n → bit a (count_trailing_zeros n a) ≡ 1
unfolding count_trailing_zeros
trailing_set zero a l = omega arith
trailing_set (suc n) a l =
    ⊎_elim
    (λ e.
    let u : count_trailing_zeros (suc n) a ≡ suc (count_trailing_zeros n (a / 2)) = under_zero (a % 2) (count_trailing_zeros n (a / 2)) e in
    ap (bit a) u ∙ bit_suc a (count_trailing_zeros n (a / 2)) ∙ trailing_set n (a / 2) (omega arith))
    (λ e. ap (bit a) (under_one (a % 2) (count_trailing_zeros n (a / 2)) e) ∙ bit_zero a ∙ e)
    (even_or_odd a)

-- ---- numbers below 2 ^ n with the same n bits are equal

pub bits_equal : (n a b : ℕ) → a < 2 ^ n → b < 2 ^ n → ((k : ℕ) → k < n → bit a k ≡ bit b k) → a ≡ b
bits_equal zero a b ha hb same = omega arith
bits_equal (suc n) a b ha hb same =
    let ga : a < 2 ^ n * 2 = rw (pow-suc 2 n) at ha in
    let gb : b < 2 ^ n * 2 = rw (pow-suc 2 n) at hb in
    let low : a % 2 ≡ b % 2 = sym (bit_zero a) ∙ same 0 (omega arith) ∙ bit_zero b in
    let high : a / 2 ≡ b / 2 = bits_equal n (a / 2) (b / 2) (omega arith) (omega arith) (λ k l. sym (bit_suc a k) ∙ same (suc k) (omega arith) ∙ bit_suc b k) in
    omega arith

-- ---- above the n bits of a number below 2 ^ n there are none

pub bit_high : (n m k : ℕ) → m < 2 ^ n → n ≤ k → bit m k ≡ 0
bit_high zero m k h l =
    let e : m ≡ 0 = omega arith in rw e (bit_none k)
bit_high (suc n) m zero h l = omega arith
bit_high (suc n) m (suc k) h l =
    let g : m < 2 ^ n * 2 = rw (pow-suc 2 n) at h in
    bit_suc m k ∙ bit_high n (m / 2) k (omega arith) (omega arith)

-- ---- one bit changed

-- `1 << i`
pub shifted_one : (i : ℕ) → i < 64 → 1 * 2 ^ i % 2 ^ 64 ≡ 2 ^ i
shifted_one i h = shl_exact 1 i 64 (lit< tt) (omega arith) ∙ one-mul (2 ^ i)

-- `(m >> i) & 1`
pub reads_bit : (m i : ℕ) → bit_and (m / 2 ^ i) 1 ≡ bit m i
unfolding bit
reads_bit m i = and_mask (m / 2 ^ i) 1

-- `m | (1 << i)`
pub or_is : (m i : ℕ) → BitIs (bit m) i 1 (bit (bit_or m (2 ^ i)))
or_is m i = record {
  here = omega (arith, bit_or_lem m (2 ^ i) i, bit_one i, bit_lt m i);
  others = λ k n. omega (arith, bit_or_lem m (2 ^ i) k, bit_other i k n);
}

-- `m & !(1 << i)`
pub and_is : (m i : ℕ) → i < 64 → m < 2 ^ 64 → BitIs (bit m) i 0 (bit (bit_and m (2 ^ 64 - 1 - 2 ^ i)))
and_is m i h f = record {
  here = omega (arith, bit_and_lem m (2 ^ 64 - 1 - 2 ^ i) i, bit_not 64 (2 ^ i) i (pow-lt h) h, bit_one i);
  others = λ k n. ⊎_elim
      (λ (l : k < 64). omega (arith, bit_and_lem m (2 ^ 64 - 1 - 2 ^ i) k, bit_not 64 (2 ^ i) k (pow-lt h) l, bit_other i k n, bit_lt m k))
      (λ (l : 64 ≤ k). omega (arith, bit_and_lem m (2 ^ 64 - 1 - 2 ^ i) k, bit_high 64 m k f l))
      (lt_or_le k 64);
}

-- `BitIs` leaves no choice of the row
pub row_unique : (f : ℕ → ℕ) (i v : ℕ) (g h : ℕ → ℕ) → BitIs f i v g → BitIs f i v h → (k : ℕ) → g k ≡ h k
row_unique f i v g h p q k =
    ⊎_elim
    (λ (e : k ≡ i). ap g e ∙ p.here ∙ sym (ap h e ∙ q.here))
    (λ (n : k ≡ i → ⊥). p.others k n ∙ sym (q.others k n))
    (same_or_not k i)

-- nor of a mask of 64 bits
pub bit_unique : (f : ℕ → ℕ) (i v a b : ℕ) → a < 2 ^ 64 → b < 2 ^ 64 → BitIs f i v (bit a) → BitIs f i v (bit b) → a ≡ b
bit_unique f i v a b ha hb p q = bits_equal 64 a b ha hb (λ k l. row_unique f i v (bit a) (bit b) p q k)

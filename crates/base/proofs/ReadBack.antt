-- A field that was put into a word is read back from its bits: once, for every list of fields in rising order.
use Prim.Native.Nat.{ℕ, zero, suc, ◌+◌, ◌*◌, ◌-◌, ◌/◌, ◌%◌, ◌^◌, ◌<◌, ◌≤◌}
use mathlib.Core.Bool.{Bool, true, false, and-eq-true_iff}
use mathlib.Core.List.{List, [], ◌∷◌}
use mathlib.Core.Path.{◌≡◌, refl, sym, ap, ◌∙◌}
use native.Mathlib.Nat.{mul_assoc, mul_comm, add_comm, mod-lt, mod-eq_of_lt, add-mul, sub-add_cancel, lt_of_mul-lt-mul_right, mul-le-mul_right, suc-mul}
use native.Mathlib.Omega.{arith}
use borrow.Author.Tests.{leb-true}
use lib.Dec.{leb, eqb}
use lib.ListN.{length, get_or}
use lib.Pow.{pow-add, pow_pos, low, high, shl_lt, shl-shr, shr-shr}
use Rattle.base.specs.Fields.{Field, field, flag, word, bits, rising}

-- A multiple of a higher power is one of a lower.
lower : (q m n : ℕ) → n ≤ m → (p : ℕ) × (q * 2 ^ m ≡ p * 2 ^ n)
lower q m n h = (
  q * 2 ^ (m - n),
  ap (λ (k : ℕ). q * 2 ^ k) (sym (sub-add_cancel h)) ∙ ap (λ (k : ℕ). q * k) (pow-add 2 (m - n) n) ∙ sym (mul_assoc _ _ _),
)

-- A value at bit `at`, and above it a multiple of the next field's place, are one multiple of the value's place.
joined : (v at wide q : ℕ) → v * 2 ^ at + q * 2 ^ (at + wide) ≡ (q * 2 ^ wide + v) * 2 ^ at
joined v at wide q =
    ap (λ (x : ℕ). v * 2 ^ at + q * x) (pow-add 2 at wide ∙ mul_comm _ _)
    ∙ ap (λ (x : ℕ). v * 2 ^ at + x) (sym (mul_assoc q (2 ^ wide) (2 ^ at)))
    ∙ add_comm _ _
    ∙ sym (add-mul (q * 2 ^ wide) v (2 ^ at))

-- What lies below bit m does not count from bit m on.
above : (q m d : ℕ) {lo : ℕ} → lo < 2 ^ m → (lo + q * 2 ^ m) / 2 ^ (m + d) ≡ q * 2 ^ m / 2 ^ (m + d)
above q m d {lo} h =
    ap (λ (x : ℕ). x / 2 ^ (m + d)) (add_comm lo _)
    ∙ sym (shr-shr _ m d)
    ∙ ap (λ (x : ℕ). x / 2 ^ d) (high q m h ∙ sym (shl-shr q m))
    ∙ shr-shr _ m d

-- The same of any higher bit, and of a word that is such a multiple.
past : (q m k w : ℕ) {lo : ℕ} → w ≡ q * 2 ^ m → m ≤ k → lo < 2 ^ m → (lo + w) / 2 ^ k ≡ w / 2 ^ k
past q m k w {lo} e h l =
    let step : (lo + q * 2 ^ m) / 2 ^ (m + (k - m)) ≡ q * 2 ^ m / 2 ^ (m + (k - m)) = above q m (k - m) l in
    let same : m + (k - m) ≡ k = omega arith in
    rw e (rw same at step)

-- A field's value stays below the next field's place.
shl_lt' : {v : ℕ} (at wide : ℕ) → v < 2 ^ wide → v * 2 ^ at < 2 ^ (at + wide)
shl_lt' {v} at wide h = rw (add_comm at wide) (shl_lt wide at h)

module _ (from to : ℕ) (f : Field) (fs : List Field) (r : rising from to (f ∷ fs) ≡ true) where
  first : from ≤ f.at
  first = leb-true _ _ ((and-eq-true_iff _ _).0 r).0

  others : rising (f.at + f.wide) to fs ≡ true
  others = ((and-eq-true_iff (leb from f.at) _).0 r).1

-- The fields from bit `from` on make a multiple of its power.
whole : (from to : ℕ) (fs : List Field) → rising from to fs ≡ true → (q : ℕ) × (word fs ≡ q * 2 ^ from)
whole from to [] r = (0, omega arith)
whole from to (f ∷ fs) r =
    let rest = whole (f.at + f.wide) to fs (others from to f fs r) in
    let v = f.value % 2 ^ f.wide in
    let low = lower (rest.0 * 2 ^ f.wide + v) f.at from (first from to f fs r) in
    (low.0, ap (λ (x : ℕ). v * 2 ^ f.at + x) rest.1 ∙ joined v f.at f.wide rest.0 ∙ low.1)

-- Each field starts at `from` or later.
from_on : (from to : ℕ) (fs : List Field) (k : ℕ) → rising from to fs ≡ true → k < length fs → from ≤ (get_or fs k (field 0 0 0)).at
from_on from to [] k r h = absurd (omega arith)
from_on from to (f ∷ fs) zero r h = first from to f fs r
from_on from to (f ∷ fs) (suc k) r h =
    let later = from_on (f.at + f.wide) to fs k (others from to f fs r) (omega arith) in
    let here = first from to f fs r in
    omega arith

-- The bits of a field are its value, cut to its width.
pub read_back : (from to : ℕ) (fs : List Field) (k : ℕ) → rising from to fs ≡ true → k < length fs
    → bits (get_or fs k (field 0 0 0)).at (get_or fs k (field 0 0 0)).wide (word fs)
    ≡ (get_or fs k (field 0 0 0)).value % 2 ^ (get_or fs k (field 0 0 0)).wide
read_back from to [] k r h = absurd (omega arith)
read_back from to (f ∷ fs) zero r h =
    let rest = whole (f.at + f.wide) to fs (others from to f fs r) in
    let v = f.value % 2 ^ f.wide in
    ap (λ (x : ℕ). (v * 2 ^ f.at + x) / 2 ^ f.at % 2 ^ f.wide) rest.1
    ∙ ap (λ (x : ℕ). x / 2 ^ f.at % 2 ^ f.wide) (joined v f.at f.wide rest.0)
    ∙ ap (λ (x : ℕ). x % 2 ^ f.wide) (shl-shr (rest.0 * 2 ^ f.wide + v) f.at)
    ∙ low rest.0 f.wide (mod-lt f.value (pow_pos f.wide))
read_back from to (f ∷ fs) (suc k) r h =
    let m = f.at + f.wide in
    let more = others from to f fs r in
    let rest = whole m to fs more in
    let v = f.value % 2 ^ f.wide in
    let g = get_or fs k (field 0 0 0) in
    let later = from_on m to fs k more (omega arith) in
    let small : v * 2 ^ f.at < 2 ^ m = shl_lt' f.at f.wide (mod-lt f.value (pow_pos f.wide)) in
    let skip : (v * 2 ^ f.at + word fs) / 2 ^ g.at ≡ word fs / 2 ^ g.at = past rest.0 m g.at (word fs) rest.1 later small in
    ap (λ (x : ℕ). x % 2 ^ g.wide) skip ∙ read_back m to fs k more (omega arith)

-- A value that fits its width is read back as it is.
pub read_back_exact : (from to : ℕ) (fs : List Field) (k : ℕ) → rising from to fs ≡ true → k < length fs
    → (get_or fs k (field 0 0 0)).value < 2 ^ (get_or fs k (field 0 0 0)).wide
    → bits (get_or fs k (field 0 0 0)).at (get_or fs k (field 0 0 0)).wide (word fs) ≡ (get_or fs k (field 0 0 0)).value
read_back_exact from to fs k r h fits = read_back from to fs k r h ∙ mod-eq_of_lt fits

-- The fields end at `to` or before.
ends : (from to : ℕ) (fs : List Field) → rising from to fs ≡ true → from ≤ to
ends from to [] r = leb-true _ _ r
ends from to (f ∷ fs) r =
    let later = ends (f.at + f.wide) to fs (others from to f fs r) in
    let here = first from to f fs r in
    omega arith

-- A multiple of a power that is below a higher power leaves room for one more.
room : (q p x n : ℕ) → q * n < p * n → x < n → x + q * n < p * n
room q p x n l h =
    let less : q < p = lt_of_mul-lt-mul_right n l in
    let at_most : suc q * n ≤ p * n = mul-le-mul_right n less in
    let split : suc q * n ≡ q * n + n = suc-mul q n in
    omega arith

-- A word of fields that end at bit `to` is below its power.
pub word_below : (from to : ℕ) (fs : List Field) → rising from to fs ≡ true → word fs < 2 ^ to
word_below from to [] r = pow_pos to
word_below from to (f ∷ fs) r =
    let m = f.at + f.wide in
    let more = others from to f fs r in
    let rest = whole m to fs more in
    let v = f.value % 2 ^ f.wide in
    let small : v * 2 ^ f.at < 2 ^ m = shl_lt' f.at f.wide (mod-lt f.value (pow_pos f.wide)) in
    let end : m ≤ to = ends m to fs more in
    let whole_to : 2 ^ (to - m) * 2 ^ m ≡ 2 ^ to = sym (pow-add 2 (to - m) m) ∙ ap (λ (k : ℕ). 2 ^ k) (sub-add_cancel end) in
    let under : rest.0 * 2 ^ m < 2 ^ (to - m) * 2 ^ m = rw (whole_to, sym rest.1) (word_below m to fs more) in
    rw (rest.1, sym whole_to) (room rest.0 (2 ^ (to - m)) (v * 2 ^ f.at) (2 ^ m) under small)

-- A field of one bit that holds a flag is the flag.
pub flag_read : (b : Bool) → eqb (flag b % 2 ^ 1) 1 ≡ b
flag_read true = refl
flag_read false = refl

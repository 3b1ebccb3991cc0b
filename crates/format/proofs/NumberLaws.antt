-- Numbers. A field is read as a number exactly where it has a digit, every byte is a digit of the base, and the value, exact, is not above the largest
-- (`number_exact`); and a number that is written reads back (`decimal_reads_back`, `hex_reads_back`). Assumes nothing.
use Prim.Native.Nat.{ℕ, zero, suc, ◌+◌, ◌-◌, ◌*◌, ◌/◌, ◌%◌, ◌^◌, ◌≤◌, ◌<◌, max}
use mathlib.Core.Bool.{Bool, true, false, ◌&&◌}
use mathlib.Core.List.{List, [], ◌∷◌, ◌++◌}
use mathlib.Core.Logic.{⊎_elim}
use Rattle.std.specs.Prelude.{Option, None, Some, unwrap_or}
use mathlib.Core.Path.{◌≡◌, refl, ap, ◌∙◌}
use native.Mathlib.Nat.{mul-le-mul_left, mod-lt, div-lt_iff_lt-mul, div-add-mod', pow-suc, pow-le-pow_right, pow-zero}
use native.Mathlib.Omega.{arith}
use borrow.Author.Tests.{leb-true, leb-false, lt-ltb, le-ltb, le-leb, lt-leb}
use lib.Dec.{ltb, leb}
use Rattle.base.specs.First.{pick}
use Rattle.base.proofs.Compare.{lt_or_le}
use Rattle.io.specs.Digits.{hex_digit_ascii, last_digits}
use Rattle.digits.specs.Digits.{digit_of, fits, grown_by, if_number, number_from, number}
use Rattle.page.specs.Page.{places_in, places, decimal, hex}
use Rattle.page.proofs.TextLaws.{places_least}

-- A digit of the base, and what it is worth.
abbrev pub is_digit : ℕ → Option ℕ → Bool
is_digit base None = false
is_digit base (Some d) = ltb d base

abbrev pub digit_worth : ℕ → ℕ
digit_worth b = unwrap_or (digit_of b) 0

-- Every byte is a digit of the base,
abbrev pub all_digits : ℕ → List ℕ → Bool
all_digits base [] = true
all_digits base (b ∷ bs) = is_digit base (digit_of b) && all_digits base bs

-- and the value that the digits make behind a value.
abbrev pub value_from : ℕ → ℕ → List ℕ → ℕ
value_from base v [] = v
value_from base v (b ∷ bs) = value_from base (v * base + digit_worth b) bs

-- More digits make no smaller value.
rises : (base v : ℕ) (bs : List ℕ) → 0 < base → v ≤ value_from base v bs
rises base v [] pos = omega arith
rises base v (b ∷ bs) pos =
    let up : v * 1 ≤ v * base = mul-le-mul_left v pos in
    let more = rises base (v * base + digit_worth b) bs pos in
    omega arith

and_false : (b : Bool) → (b && false) ≡ false
and_false true = refl
and_false false = refl

abbrev read_as : ℕ → ℕ → ℕ → List ℕ → Option ℕ
read_as base most v bs = pick (all_digits base bs && leb (value_from base v bs) most) (Some (value_from base v bs)) None

by_some : (base most v d : ℕ) (bs : List ℕ) → 0 < base → v ≤ most → (x l : Bool) → ltb d base ≡ x → leb (v * base + d) most ≡ l
    → (v * base + d ≤ most → number_from base most (v * base + d) bs ≡ read_as base most (v * base + d) bs)
    → if_number (grown_by base most v (Some d)) (λ n. number_from base most n bs)
    ≡ pick ((ltb d base && all_digits base bs) && leb (value_from base (v * base + d) bs) most) (Some (value_from base (v * base + d) bs)) None
unfolding grown_by fits
by_some base most v d bs pos small false l ex el more = rw ex
by_some base most v d bs pos small true true ex el more = rw (ex, el) (more (leb-true (v * base + d) most el))
by_some base most v d bs pos small true false ex el more =
    let large : most < v * base + d = leb-false (v * base + d) most el in
    let up = rises base (v * base + d) bs pos in
    let over : leb (value_from base (v * base + d) bs) most ≡ false = lt-leb (value_from base (v * base + d) bs) most (omega arith) in
    rw (ex, el, over, and_false)

by_digit : (base most v b : ℕ) (bs : List ℕ) → 0 < base → v ≤ most → (o : Option ℕ) → digit_of b ≡ o
    → ((d : ℕ) → v * base + d ≤ most → number_from base most (v * base + d) bs ≡ read_as base most (v * base + d) bs)
    → number_from base most v (b ∷ bs) ≡ read_as base most v (b ∷ bs)
unfolding number_from grown_by
by_digit base most v b bs pos small None e more = rw e
by_digit base most v b bs pos small (Some d) e more =
    rw e (by_some base most v d bs pos small (ltb d base) (leb (v * base + d) most) refl refl (more d))

exact_from : (base most v : ℕ) (bs : List ℕ) → 0 < base → v ≤ most → number_from base most v bs ≡ read_as base most v bs
unfolding number_from
exact_from base most v [] pos small = rw (le-leb v most small)
exact_from base most v (b ∷ bs) pos small = by_digit base most v b bs pos small (digit_of b) refl (λ d h. exact_from base most (v * base + d) bs pos h)

-- A field with a digit is a number exactly where its bytes are digits and their value is not above the largest.
pub number_exact : (base most b : ℕ) (bs : List ℕ) → 0 < base → number base most (b ∷ bs) ≡ read_as base most 0 (b ∷ bs)
unfolding number
number_exact base most b bs pos = exact_from base most 0 (b ∷ bs) pos (omega arith)

-- ---- what is written reads back

-- A digit's glyph is worth the digit.
small_glyph : (d : ℕ) → d < 10 → digit_of (48 + d) ≡ Some d
unfolding digit_of
small_glyph d h =
    let same : 48 + d - 48 ≡ d = omega arith in
    rw (le-ltb (48 + d) 48 (omega arith), lt-ltb (48 + d) 58 (omega arith), same)

large_glyph : (d : ℕ) → 10 ≤ d → d < 16 → digit_of (87 + d) ≡ Some d
unfolding digit_of
large_glyph d l h =
    let same : 87 + d - 87 ≡ d = omega arith in
    rw (le-ltb (87 + d) 48 (omega arith), le-ltb (87 + d) 58 (omega arith), le-ltb (87 + d) 65 (omega arith), le-ltb (87 + d) 71 (omega arith), le-ltb (87 + d) 97 (omega arith), lt-ltb (87 + d) 103 (omega arith), same)

glyph_worth : (d : ℕ) → d < 16 → digit_of (hex_digit_ascii d) ≡ Some d
glyph_worth d h =
    ⊎_elim (λ (s : d < 10). rw (lt-ltb d 10 s) (small_glyph d s)) (λ (l : 10 ≤ d). rw (le-ltb d 10 l) (large_glyph d l h)) (lt_or_le d 10)

value_behind : (base v g : ℕ) (xs : List ℕ) → value_from base v (xs ++ g ∷ []) ≡ value_from base v xs * base + digit_worth g
value_behind base v g [] = refl
value_behind base v g (x ∷ xs) = value_behind base (v * base + digit_worth x) g xs

digits_behind : (base g : ℕ) (xs : List ℕ) → all_digits base xs ≡ true → is_digit base (digit_of g) ≡ true → all_digits base (xs ++ g ∷ []) ≡ true
digits_behind base g [] e h = rw h
digits_behind base g (x ∷ xs) e h = both (is_digit base (digit_of x)) (all_digits base xs) e (digits_behind base g xs)
  where
    both : (a b : Bool) → (a && b) ≡ true → (b ≡ true → is_digit base (digit_of g) ≡ true → all_digits base (xs ++ g ∷ []) ≡ true) → (a && all_digits base (xs ++ g ∷ [])) ≡ true
    both true b e next = next e h
    both false b e next = e

module _ (base : ℕ) (two : 1 < base) (sixteen : base ≤ 16) where
  last_glyph : (n : ℕ) → digit_of (hex_digit_ascii (n % base)) ≡ Some (n % base)
  last_glyph n = let low : n % base < base = mod-lt n (omega arith) in glyph_worth (n % base) (omega arith)

  all_written : (k n : ℕ) → all_digits base (last_digits base k n) ≡ true
  all_written zero n = refl
  all_written (suc k) n =
      let low : n % base < base = mod-lt n (omega arith) in
      digits_behind base (hex_digit_ascii (n % base)) (last_digits base k (n / base)) (all_written k (n / base)) (rw (last_glyph n) (lt-ltb (n % base) base low))

  value_written : (k n : ℕ) → n < base ^ k → value_from base 0 (last_digits base k n) ≡ n
  value_written zero n h = let one : base ^ 0 ≡ 1 = pow-zero base in omega arith
  value_written (suc k) n h =
      let pos : 0 < base = omega arith in
      let up : base ^ suc k ≡ base ^ k * base = pow-suc base k in
      let less : n / base < base ^ k = (div-lt_iff_lt-mul {k = base} {x = n} {y = base ^ k} pos).1 (rw up at h) in
      value_behind base 0 (hex_digit_ascii (n % base)) (last_digits base k (n / base))
      ∙ ap (λ (v : ℕ). v * base + digit_worth (hex_digit_ascii (n % base))) (value_written k (n / base) less)
      ∙ ap (λ (o : Option ℕ). n / base * base + unwrap_or o 0) (last_glyph n)
      ∙ div-add-mod' n base

  -- The digits of a number, enough of them, are read as the number.
  read_back : (most k n : ℕ) → n < base ^ k → n ≤ most → number_from base most 0 (last_digits base k n) ≡ Some n
  read_back most k n h small =
      let same : value_from base 0 (last_digits base k n) ≡ n = value_written k n h in
      exact_from base most 0 (last_digits base k n) (omega arith) (omega arith)
      ∙ rw (all_written k n, same, le-leb n most small)

-- A list with something behind it has a first byte.
some_first : (base most : ℕ) (xs : List ℕ) (g : ℕ) → number base most (xs ++ g ∷ []) ≡ number_from base most 0 (xs ++ g ∷ [])
unfolding number
some_first base most [] g = refl
some_first base most (x ∷ xs) g = refl

written : (base most k n : ℕ) → 1 ≤ k → number base most (last_digits base k n) ≡ number_from base most 0 (last_digits base k n)
written base most zero n h = absurd (omega arith)
written base most (suc k) n h = some_first base most (last_digits base k (n / base)) (hex_digit_ascii (n % base))

module _ (n most : ℕ) (fits : n < 2 ^ 64) (small : n ≤ most) where
  -- A decimal that is written reads back,
  pub decimal_reads_back : number 10 most (decimal n) ≡ Some n
  unfolding decimal places
  decimal_reads_back =
      let l = places_least 20 10 n (omega arith) (omega arith) in
      written 10 most (places_in 20 10 n) n l.some ∙ read_back 10 (omega arith) (omega arith) most (places_in 20 10 n) n l.holds small

  -- and so does hex, of however many digits.
  pub hex_reads_back : (least : ℕ) → number 16 most (hex least n) ≡ Some n
  unfolding hex places
  hex_reads_back least =
      let l = places_least 20 16 n (omega arith) (omega arith) in
      let k = max least (places_in 20 16 n) in
      let up : 16 ^ places_in 20 16 n ≤ 16 ^ k = pow-le-pow_right {n = 16} (omega arith) {i = places_in 20 16 n} {j = k} (omega arith) in
      let holds : n < 16 ^ k = omega (arith, l.holds) in
      let one : 1 ≤ k = omega (arith, l.some) in
      written 16 most k n one ∙ read_back 16 (omega arith) (omega arith) most k n holds small

-- ---- what is read is of its type

small_some : (base most v d n : ℕ) (bs : List ℕ) (x l : Bool) → ltb d base ≡ x → leb (v * base + d) most ≡ l
    → if_number (grown_by base most v (Some d)) (λ w. number_from base most w bs) ≡ Some n
    → (v * base + d ≤ most → number_from base most (v * base + d) bs ≡ Some n → n ≤ most)
    → n ≤ most
unfolding grown_by fits
small_some base most v d n bs false l ex el e more = let z : ◌≡◌ {A = ℕ} 0 1 = cc (rw ex at e) in absurd (omega arith)
small_some base most v d n bs true true ex el e more = more (leb-true (v * base + d) most el) (rw (ex, el) at e)
small_some base most v d n bs true false ex el e more = let z : ◌≡◌ {A = ℕ} 0 1 = cc (rw (ex, el) at e) in absurd (omega arith)

small_by : (base most v b n : ℕ) (bs : List ℕ) (o : Option ℕ) → digit_of b ≡ o → number_from base most v (b ∷ bs) ≡ Some n
    → ((d : ℕ) → v * base + d ≤ most → number_from base most (v * base + d) bs ≡ Some n → n ≤ most)
    → n ≤ most
unfolding number_from grown_by
small_by base most v b n bs None eo e more = let z : ◌≡◌ {A = ℕ} 0 1 = cc (rw eo at e) in absurd (omega arith)
small_by base most v b n bs (Some d) eo e more =
    small_some base most v d n bs (ltb d base) (leb (v * base + d) most) refl refl (rw eo at e) (more d)

small_from : (base most v n : ℕ) (bs : List ℕ) → v ≤ most → number_from base most v bs ≡ Some n → n ≤ most
unfolding number_from
small_from base most v n [] small e = let same : v ≡ n = cc in omega arith
small_from base most v n (b ∷ bs) small e = small_by base most v b n bs (digit_of b) refl e (λ d h k. small_from base most (v * base + d) n bs h k)

-- A number that is read is not above the largest of its type.
pub number_small : (base most n : ℕ) (x : List ℕ) → number base most x ≡ Some n → n ≤ most
unfolding number
number_small base most n [] e = let z : ◌≡◌ {A = ℕ} 0 1 = cc in absurd (omega arith)
number_small base most n (b ∷ bs) e = small_from base most 0 n (b ∷ bs) (omega arith) e

-- A number's text is unique: the fewest digits that hold it, of which `io` speaks, are its places. Assumes nothing.
use Prim.Native.Nat.{ℕ, zero, suc, ◌+◌, ◌-◌, ◌*◌, ◌/◌, ◌^◌, ◌≤◌, ◌<◌, max}
use mathlib.Core.Bool.{Bool, true, false}
use mathlib.Core.List.{List}
use mathlib.Core.Logic.{⊎_elim}
use mathlib.Core.Path.{◌≡◌, refl, ap, ◌∙◌}
use native.Mathlib.Nat.{pow-zero, pow-le-pow_right, div-lt_iff_lt-mul, le-div_iff_mul-le, pow-suc}
use native.Mathlib.Omega.{arith}
use borrow.Author.Tests.{ltb-true, ltb-false}
use lib.Dec.{ltb}
use lib.ListN.{take}
use Rattle.base.specs.First.{pick}
use Rattle.base.proofs.Compare.{lt_or_le}
use Rattle.io.specs.Digits.{last_digits, IsDigitCount}
use Rattle.page.specs.Page.{places_in, places, decimal, hex}

-- k digits hold n, and fewer do not, but that 0 has one.
pub record Least (base n k : ℕ) : Type 0 where
  pub some : 1 ≤ k
  pub holds : n < base ^ k
  pub full : 0 < n → base ^ (k - 1) ≤ n
  pub more : 1 < k → 0 < n

-- One digit in front.
longer : (base n k : ℕ) → 0 < base → base ≤ n → Least base (n / base) k → Least base n (1 + k)
longer base n k pos large l =
    let up : base ^ suc k ≡ base ^ k * base = pow-suc base k in
    let one : 1 ≤ n / base = (le-div_iff_mul-le {k = base} {x = 1} {y = n} pos).1 (omega arith) in
    let back : base ^ k ≡ base ^ (k - 1) * base = ap (λ (j : ℕ). base ^ j) (same k l.some) ∙ pow-suc base (k - 1) in
    let low : base ^ (k - 1) * base ≤ n = (le-div_iff_mul-le {k = base} {x = base ^ (k - 1)} {y = n} pos).0 (l.full (omega arith)) in
    let high : n < base ^ k * base = (div-lt_iff_lt-mul {k = base} {x = n} {y = base ^ k} pos).0 l.holds in
    record {
      some = omega arith;
      holds = rw (add k, up) high;
      full = λ h. rw (off k, back) low;
      more = λ h. omega arith;
    }
  where
    same : (k : ℕ) → 1 ≤ k → k ≡ suc (k - 1)
    same k h = omega arith

    add : (k : ℕ) → 1 + k ≡ suc k
    add k = omega arith

    off : (k : ℕ) → 1 + k - 1 ≡ k
    off k = omega arith

pub places_least : (fuel base n : ℕ) → 1 < base → n < base ^ suc fuel → Least base n (places_in fuel base n)
unfolding places_in
places_least zero base n two h = record { some = omega arith; holds = h; full = λ p. let z : base ^ (1 - 1) ≡ 1 = pow-zero base in omega arith; more = λ l. omega arith }
places_least (suc fuel) base n two h = by (ltb n base) refl (λ less. places_least fuel base (n / base) two less)
  where
    by : (b : Bool) → ltb n base ≡ b → (n / base < base ^ suc fuel → Least base (n / base) (places_in fuel base (n / base)))
        → Least base n (pick b 1 (1 + places_in fuel base (n / base)))
    by true e rest =
        let small : n < base = ltb-true n base e in
        let one : base ^ 1 ≡ base = pow-suc base 0 ∙ ap (λ (j : ℕ). j * base) (pow-zero base) ∙ omega arith in
        record { some = omega arith; holds = rw one small; full = λ p. let z : base ^ (1 - 1) ≡ 1 = pow-zero base in omega arith; more = λ l. omega arith }
    by false e rest =
        let large : base ≤ n = ltb-false n base e in
        let pos : 0 < base = omega arith in
        let up : base ^ suc (suc fuel) ≡ base ^ suc fuel * base = pow-suc base (suc fuel) in
        let less : n / base < base ^ suc fuel = (div-lt_iff_lt-mul {k = base} {x = n} {y = base ^ suc fuel} pos).1 (rw up at h) in
        longer base n (places_in fuel base (n / base)) pos large (rest less)

-- The fewest digits that hold a number, no fewer than so many, are its places or those.
only : (base least n k p : ℕ) → 0 < base → 1 ≤ least → Least base n p → IsDigitCount base least n k → k ≡ max least p
only base least n k p pos one l f =
    let below : p ≤ k = ⊎_elim (λ (h : k < p). absurd (short h)) (λ (h : p ≤ k). h) (lt_or_le k p) in
    let above : k ≤ max least p = ⊎_elim (λ (h : max least p < k). absurd (long h)) (λ (h : k ≤ max least p). h) (lt_or_le (max least p) k) in
    omega (arith, f.0)
  where
    short : k < p → ⊥
    short h =
        let some : 0 < n = l.more (omega (arith, f.0)) in
        let low : base ^ (p - 1) ≤ n = l.full some in
        let up : base ^ k ≤ base ^ (p - 1) = pow-le-pow_right pos (omega arith) in
        omega (arith, f.1)

    long : max least p < k → ⊥
    long h =
        let low : base ^ (k - 1) ≤ n = f.2 (omega arith) in
        let up : base ^ p ≤ base ^ (k - 1) = pow-le-pow_right pos (omega arith) in
        omega (arith, l.holds)

module _ (n k : ℕ) (fits : n < 2 ^ 64) (text : List ℕ) where
  -- The digits that `io::decimal` makes,
  pub decimal_text : IsDigitCount 10 1 n k → take k text ≡ last_digits 10 k n → take k text ≡ decimal n
  unfolding decimal places
  decimal_text f e =
      let l = places_least 20 10 n (omega arith) (omega arith) in
      let same : k ≡ places_in 20 10 n = only 10 1 n k (places_in 20 10 n) (omega arith) (omega arith) l f ∙ omega (arith, l.some) in
      e ∙ ap (λ (j : ℕ). last_digits 10 j n) same

  -- and those that `io::hex` makes.
  pub hex_text : (least : ℕ) → 1 ≤ least → IsDigitCount 16 least n k → take k text ≡ last_digits 16 k n → take k text ≡ hex least n
  unfolding hex places
  hex_text least one f e =
      let l = places_least 20 16 n (omega arith) (omega arith) in
      e ∙ ap (λ (j : ℕ). last_digits 16 j n) (only 16 least n k (places_in 20 16 n) (omega arith) one l f)

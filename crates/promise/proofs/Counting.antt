-- If every number from a to b - 1 lies in the range of some of n records, the sizes of those ranges add up to b - a at least. Assumes nothing.
use Prim.Native.Nat.{ℕ, zero, suc, ◌+◌, ◌-◌, ◌≤◌, ◌<◌, min, max}
use mathlib.Core.Path.{◌≡◌}
use native.Mathlib.Omega.{arith}
use Rattle.mask.specs.Bit.{sum}
use Rattle.mask.proofs.SumLaws.{sum_mono, sum_less}

-- Record r has the numbers from `first r` on, `size r` of them.
module _ (n : ℕ) (first size : ℕ → ℕ) where
  -- One of the records has number j.
  pub record Owned (j : ℕ) : Type 0 where
    pub owner : ℕ
    pub within : owner < n
    pub from : first owner ≤ j
    pub to : j < first owner + size owner

  module _ (a : ℕ) where
    -- How many of the numbers from a to b - 1 record r has.
    part : ℕ → ℕ → ℕ
    part b r = min b (first r + size r) - max a (first r)

    rises : (b r : ℕ) → part b r ≤ part (suc b) r
    unfolding part
    rises b r = omega arith

    owned_rises : (b r : ℕ) → a ≤ b → first r ≤ b → b < first r + size r → part b r < part (suc b) r
    unfolding part
    owned_rises b r h f t = omega arith

    bounded : (b r : ℕ) → part b r ≤ size r
    unfolding part
    bounded b r = omega arith

    -- k numbers from a on
    grows : (k : ℕ) → ((j : ℕ) → a ≤ j → j < a + k → Owned j) → k ≤ sum n (part (a + k))
    grows zero owned = omega arith
    grows (suc k) owned =
        let o = owned (a + k) (omega arith) (omega arith) in
        let more =
        sum_less n o.owner (part (a + k)) (part (suc (a + k))) o.within
        (owned_rises (a + k) o.owner (omega arith) o.from o.to) (λ r l. rises (a + k) r) in
        let last : a + suc k ≡ suc (a + k) = omega arith in
        rw last (omega (arith, more, grows k (λ j h l. owned j h (omega arith))))

    pub covered : (b : ℕ) → ((j : ℕ) → a ≤ j → j < b → Owned j) → b ≤ a + sum n size
    covered b owned =
        let k : ℕ = b - a in
        omega (arith, grows k (λ j h l. owned j h (omega arith)), sum_mono n (part (a + k)) size (λ r l. bounded (a + k) r))

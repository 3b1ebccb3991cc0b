-- Document 02, "A buffer that just fits is refused": row 5 holds of a buffer exactly where a byte of it lies above the mask (`by_bytes`), under the mask 2^64-1
-- exactly where it has a byte and ends above 2^64 (`by_top`); not where its last byte is the mask's (`just_fits`), and never where it has no byte
-- (`empty_fits`). It is document 01's rule but for the buffer that just fits (`else_as_before`). Assumes nothing.
use Prim.Native.Nat.{ℕ, ◌+◌, ◌-◌, ◌^◌, ◌<◌, ◌≤◌}
use mathlib.Core.Bool.{false, ◌&&◌, ◌||◌}
use mathlib.Core.Logic.{◌⊎◌, inr, ⊎_elim}
use mathlib.Core.Path.{◌≡◌, refl}
use native.Mathlib.Omega.{arith}
use lib.Dec.{ltb}
use Rattle.base.proofs.Compare.{lt_or_le}
use Rattle.base.proofs.Decide.{Decides, by_ltb, both, either, reworded, same_test, if_not}
use Rattle.dock.specs.Start.{beyond}
use Rattle.dock.proofs.RefusalTestLaws.{by_beyond}

module _ (mask address size : ℕ) where
  -- "a mask of ffffffff allows byte ffffffff": byte k of the buffer stands at address + k, the sum exact, and lies above the mask.
  abbrev pub ReachesAbove : Type 0
  ReachesAbove = (k : ℕ) × (k < size) × (mask < address + k)

  pub by_bytes : Decides (beyond mask address size) ReachesAbove
  by_bytes =
      reworded
      (λ k. (size - 1, omega (arith, k.0), omega (arith, k.0, k.1)))
      (λ k. (omega (arith, k.1), omega (arith, k.1, k.2)))
      (by_beyond mask address size)

  -- A buffer that just fits: its last byte is the mask's.
  pub just_fits : address + size ≡ mask + 1 → beyond mask address size ≡ false
  just_fits end = if_not (by_beyond mask address size) (λ k. omega (arith, end, k.0, k.1))

  -- Every other buffer is refused as document 01 had it: "length above 0 and (address > mask or address + length > mask), the sum exact".
  pub else_as_before : (address + size ≡ mask + 1 → ⊥) → beyond mask address size ≡ (ltb 0 size && (ltb mask address || ltb mask (address + size)))
  else_as_before other = same_test (by_beyond mask address size) (reworded there back before)
    where
      before : Decides (ltb 0 size && (ltb mask address || ltb mask (address + size))) ((0 < size) × ((mask < address) ⊎ (mask < address + size)))
      before = both (by_ltb 0 size) (either (by_ltb mask address) (by_ltb mask (address + size)))

      over : mask < address + size → mask < address + size - 1
      over h =
          ⊎_elim (λ (l : mask + 1 < address + size). omega (arith, l)) (λ (l : address + size ≤ mask + 1). absurd (other (omega (arith, h, l))))
          (lt_or_le (mask + 1) (address + size))

      there : (0 < size) × ((mask < address) ⊎ (mask < address + size)) → (0 < size) × (mask < address + size - 1)
      there k = (k.0, ⊎_elim (λ (h : mask < address). omega (arith, h, k.0)) over k.1)

      back : (0 < size) × (mask < address + size - 1) → (0 < size) × ((mask < address) ⊎ (mask < address + size))
      back k = (k.0, inr (omega (arith, k.0, k.1)))

-- Under the mask 2^64-1 the last byte may stand at 2^64-1.
pub by_top : (address size : ℕ) → Decides (beyond (2 ^ 64 - 1) address size) ((0 < size) × (2 ^ 64 < address + size))
by_top address size =
    reworded (λ k. (k.0, omega (arith, k.0, k.1))) (λ k. (k.0, omega (arith, k.0, k.1))) (by_beyond (2 ^ 64 - 1) address size)

-- With length 0 any address will do, one above the mask too.
pub empty_fits : (mask address : ℕ) → beyond mask address 0 ≡ false
unfolding beyond
empty_fits mask address = refl

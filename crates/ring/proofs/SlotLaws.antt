-- The slot of an address: `slot_of` answers `Some i` exactly where the address is that of slot i, and `None` where it is that of none.
-- Assumes nothing.
use Rattle.std.specs.Prelude.{Some, None}
use Prim.Native.Nat.{ℕ, ◌+◌, ◌-◌, ◌*◌, ◌/◌, ◌%◌, ◌≤◌, ◌<◌}
use mathlib.Core.Path.{◌≡◌, sym, ap, ◌∙◌}
use native.Mathlib.Omega.{arith}
use Rattle.base.proofs.Decide.{Decides, by_leb, by_ltb, by_eqb, both, if_so, if_not}
use Rattle.ring.specs.Ring.{slot_address, is_slot, slot_of}

module _ (base slots address : ℕ) where
  abbrev Inside : Type 0
  Inside = ((base ≤ address) × ((address - base) % 16 ≡ 0)) × ((address - base) / 16 < slots)

  by_slot : Decides (is_slot base slots address) Inside
  unfolding is_slot
  by_slot = both (both (by_leb _ _) (by_eqb _ _)) (by_ltb _ _)

  pub inside : Inside → Some ((address - base) / 16) ≡ slot_of base slots address
  unfolding slot_of
  inside ok = simp (if_so by_slot ok)

  pub outside : (Inside → ⊥) → None ≡ slot_of base slots address
  unfolding slot_of
  outside off = simp (if_not by_slot off)

-- The address of a slot names that slot.
pub slot_found : (base slots i : ℕ) → i < slots → slot_of base slots (slot_address base i) ≡ Some i
slot_found base slots i h =
    let index : (base + 16 * i - base) / 16 ≡ i = omega arith in
    sym (inside base slots (slot_address base i) ((omega arith, omega arith), omega arith)) ∙ ap Some index

-- An address that is no slot's is outside.
pub none_found : (base slots address : ℕ) → ((i : ℕ) → i < slots → address ≡ slot_address base i → ⊥) → slot_of base slots address ≡ None
none_found base slots address none =
    sym (outside base slots address (λ ok. none ((address - base) / 16) ok.1 (omega arith)))

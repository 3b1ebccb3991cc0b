-- The places of a request's TRBs: each is one of the slots 0 to L-2, and each next one is the place behind the last. Assumes nothing.
use Prim.Native.Nat.{ℕ, ◌+◌, ◌-◌, ◌%◌, ◌<◌}
use mathlib.Core.Logic.{⊎_elim}
use mathlib.Core.Path.{◌≡◌, sym, ap, ◌∙◌}
use native.Mathlib.Nat.{mod-lt, mod-eq_of_lt, mod-add-mod, mod_self}
use native.Mathlib.Omega.{arith}
use borrow.Author.Tests.{eq-eqb, ne_eqb}
use Rattle.base.proofs.Compare.{same_or_not}
use Rattle.dock.specs.Reclaim.{place_of}
use Rattle.marking.specs.Marking.{behind}

module _ (slots place : ℕ) (fits : place + 1 < slots) where
  -- Every place is one of the slots 0 to L-2.
  pub place_below : (k : ℕ) → place_of slots place k + 1 < slots
  unfolding place_of
  place_below k = let l = mod-lt (place + k) {m = slots - 1} (omega arith) in omega arith

  -- The next place is the one behind.
  pub place_next : (k : ℕ) → behind slots (place_of slots place k) ≡ place_of slots place (k + 1)
  unfolding place_of
  place_next k =
      let m = slots - 1 in
      let r = (place + k) % m in
      let l = mod-lt (place + k) {m = slots - 1} (omega arith) in
      let more : (place + k) + 1 ≡ place + (k + 1) = omega arith in
      let step : (r + 1) % m ≡ (place + (k + 1)) % m = mod-add-mod (place + k) m 1 ∙ ap (λ (n : ℕ). n % m) more in
      ⊎_elim
      (λ (e : r + 2 ≡ slots).
      let full : r + 1 ≡ m = omega arith in
      rw (eq-eqb (r + 2) slots e) (sym (mod_self m) ∙ ap (λ (n : ℕ). n % m) (sym full) ∙ step))
      (λ (n : r + 2 ≡ slots → ⊥).
      let small : r + 1 < m = ⊎_elim (λ (e : r + 2 ≡ slots). absurd (n e)) (λ (d : r + 2 ≡ slots → ⊥). omega arith) (same_or_not (r + 2) slots) in
      rw (ne_eqb (r + 2) slots n) (sym (mod-eq_of_lt small) ∙ step))
      (same_or_not (r + 2) slots)

-- Two numbers compared: the cases that a proof goes by. Assumes nothing.
use Prim.Native.Nat.{ℕ, ◌-◌, ◌<◌, ◌≤◌}
use mathlib.Core.Logic.{◌⊎◌, inl, inr, ⊎_elim}
use mathlib.Core.Path.{◌≡◌}
use native.Mathlib.Nat.{eq-zero-or-pos}
use native.Mathlib.Omega.{arith}

pub lt_or_le : (a b : ℕ) → (a < b) ⊎ (b ≤ a)
lt_or_le a b = ⊎_elim (λ e. inr (omega arith)) (λ l. inl (omega arith)) (eq-zero-or-pos (b - a))

pub compared : (a b : ℕ) → (a ≡ b) ⊎ ((a < b) ⊎ (b < a))
compared a b =
    ⊎_elim
    (λ (l : a < b). inr (inl l))
    (λ (l : b ≤ a). ⊎_elim (λ (m : b < a). inr (inr m)) (λ (m : a ≤ b). inl (omega arith)) (lt_or_le b a))
    (lt_or_le a b)

pub same_or_not : (a b : ℕ) → (a ≡ b) ⊎ (a ≡ b → ⊥)
same_or_not a b = ⊎_elim (λ e. inl e) (λ d. inr (λ e. ⊎_elim (λ (l : a < b). omega arith) (λ (l : b < a). omega arith) d)) (compared a b)

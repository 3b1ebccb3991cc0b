-- The standard's cycle rule on the words of our TRBs: any TRB but a link leads one slot on, a toggling link to the base leads to slot 0 with the
-- state toggled, and a consumer owns a TRB exactly where the cycle bit that it was given is the consumer's state. Assumes nothing.
use Prim.Native.Nat.{ℕ, ◌+◌, ◌-◌, ◌/◌, ◌%◌, ◌^◌, ◌<◌}
use mathlib.Core.Bool.{Bool, true, not, beq}
use mathlib.Core.Path.{◌≡◌, sym, ◌∙◌}
use native.Mathlib.Omega.{arith}
use borrow.Author.Tests.{eq-eqb, ne_eqb}
use Rattle.trb.specs.Layouts.{words_of, type_number}
use Rattle.trb.specs.Cycle.{Pointer, past, owned, type_of}
use Rattle.trb.specs.declared.Trb.{Trb}
use Rattle.trb.specs.declared.Trb.TheVariants.{Link}
use Rattle.trb.proofs.LayoutLaws.{cycle_is, type_is, toggle_is, points}

pub past_other : (base : ℕ) (t : Trb) (cycle : Bool) (p : Pointer) → (type_number t ≡ 6 → ⊥)
    → past base (words_of t cycle) p ≡ record { slot = p.slot + 1; state = p.state }
unfolding past
past_other base t cycle p other =
    rw (ne_eqb (type_of (words_of t cycle)) 6 (λ e. other (sym (type_is t cycle) ∙ e)))

pub past_link : (base : ℕ) (chain cycle : Bool) (p : Pointer) → base % 16 ≡ 0 → base < 2 ^ 64
    → past base (words_of (Link base true chain) cycle) p ≡ record { slot = 0; state = not p.state }
unfolding past
past_link base chain cycle p even fits =
    let none : (base - base) / 16 ≡ 0 = omega arith in
    rw (eq-eqb (type_of (words_of (Link base true chain) cycle)) 6 (type_is (Link base true chain) cycle), points base true chain cycle even fits, toggle_is base true chain cycle, none)

pub owned_is : (t : Trb) (cycle : Bool) (p : Pointer) → owned (words_of t cycle) p ≡ beq cycle p.state
unfolding owned
owned_is t cycle p = rw (cycle_is t cycle)

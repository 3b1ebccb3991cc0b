-- The controller's rule is the standard's consumer rule (`Rattle.trb.specs.Cycle`, 4.9.2): it moves exactly where the TRB at its slot is its own, and
-- then to the standard's pointer past that TRB, wherever a link leads to the ring's base and toggles. The ring's own link does. Assumes nothing.
use Prim.Native.Nat.{ℕ, ◌-◌, ◌/◌, ◌%◌, ◌^◌, ◌<◌}
use mathlib.Core.Bool.{Bool, true, false}
use mathlib.Core.List.{List}
use mathlib.Core.Path.{◌≡◌, refl, ap}
use native.Mathlib.Omega.{arith}
use borrow.Author.Tests.{eqb-true}
use lib.Dec.{eqb}
use Rattle.base.specs.First.{pick}
use Rattle.trb.specs.Cycle.{owned, past, type_of, toggles, points_to}
use Rattle.trb.specs.Layouts.{words_of, words_at}
use Rattle.trb.specs.declared.Words.{Words}
use Rattle.trb.specs.declared.Trb.TheVariants.{Link}
use Rattle.trb.proofs.LayoutLaws.{toggle_is, points}
use Rattle.controller.specs.Rule.{pointer, does, step_at, step}
use Rattle.controller.specs.declared.Consumer.{Consumer}

-- A link that leads to the base and toggles.
pub record Homeward (base : ℕ) (w : Words) : Type 0 where
  pub leads : points_to w ≡ base
  pub turns : toggles w ≡ true

-- The ring's own link is one.
pub own_link : (base : ℕ) (chain cycle : Bool) → base % 16 ≡ 0 → base < 2 ^ 64 → Homeward base (words_of (Link base true chain) cycle)
own_link base chain cycle even fits = record { leads = points base true chain cycle even fits; turns = toggle_is base true chain cycle }

module _ (base : ℕ) (w : Words) (c : Consumer) (home : type_of w ≡ 6 → Homeward base w) where
  -- Other words than its own: nothing happens.
  pub waits : owned w (pointer c) ≡ false → (step_at w c).after ≡ c
  unfolding does
  waits other = rw other

  -- Its own: it goes where the standard has it go.
  moved : (link : Bool) → eqb (type_of w) 6 ≡ link → owned w (pointer c) ≡ true → pointer (step_at w c).after ≡ past base w (pointer c)
  unfolding does past
  moved true is own =
      let h = home (eqb-true (type_of w) 6 is) in
      let none : (base - base) / 16 ≡ 0 = omega arith in
      rw (own, is, h.leads, h.turns, none)
  moved false is own = rw (own, is)

  pub moves : owned w (pointer c) ≡ true → pointer (step_at w c).after ≡ past base w (pointer c)
  moves own = moved (eqb (type_of w) 6) refl own

-- Both, of a step on the ring's words.
module _ (base : ℕ) (ring : List ℕ) (c : Consumer) (home : type_of (words_at ring c.slot) ≡ 6 → Homeward base (words_at ring c.slot)) where
  stepped : (own : Bool) → owned (words_at ring c.slot) (pointer c) ≡ own
      → pointer (step ring c).after ≡ pick own (past base (words_at ring c.slot) (pointer c)) (pointer c)
  unfolding step
  stepped true own = moves base (words_at ring c.slot) c home own
  stepped false own = ap pointer (waits base (words_at ring c.slot) c home own)

  pub step_standard : pointer (step ring c).after ≡ pick (owned (words_at ring c.slot) (pointer c)) (past base (words_at ring c.slot) (pointer c)) (pointer c)
  step_standard = stepped (owned (words_at ring c.slot) (pointer c)) refl

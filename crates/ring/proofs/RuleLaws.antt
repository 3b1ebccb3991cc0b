-- The stores against the standard's cycle rule (`Rattle.trb.specs.Cycle`, 4.9.2): the producer's positions are the standard's, a deferred TRB is not
-- the consumer's, and a store lands whole in one slot and leaves every other slot as it was. Assumes nothing.
use Prim.Native.Nat.{ℕ, ◌+◌, ◌*◌, ◌%◌, ◌^◌, ◌≤◌, ◌<◌}
use mathlib.Core.Bool.{Bool, true, false, not, beq}
use mathlib.Core.List.{List}
use mathlib.Core.Path.{◌≡◌, refl, ◌∙◌}
use lib.ListN.{length}
use Rattle.trb.specs.Layouts.{words_of, words_at, type_number}
use Rattle.trb.specs.Cycle.{past, owned}
use Rattle.trb.specs.Cycle as cycle
use Rattle.trb.specs.declared.Trb.{Trb}
use Rattle.trb.proofs.BlockLaws.{words_length, words_same, words_other}
use Rattle.trb.proofs.CycleLaws.{past_other, past_link, owned_is}
use Rattle.ring.specs.Ring.{store_at, onward, around, link_trb}
use Rattle.ring.specs.declared.Position.{Position}

-- A position as the standard has it: the enqueue pointer's slot, and the producer's cycle state.
abbrev pub pointer : Position → cycle.Pointer
pointer p = record { slot = p.place; state = p.cycle }

-- Past a TRB that is no link, stored with either cycle bit, the pointer is the position one place on.
pub onward_is : (base : ℕ) (t : Trb) (c : Bool) (p : Position) → (type_number t ≡ 6 → ⊥) → past base (words_of t c) (pointer p) ≡ pointer (onward p)
onward_is base t c p other = past_other base t c (pointer p) other

-- Past the ring's link it is the position that has gone round.
pub around_is : (base : ℕ) (chain c : Bool) (p : Position) → base % 16 ≡ 0 → base < 2 ^ 64
    → past base (words_of (link_trb base chain) c) (pointer p) ≡ pointer (around p)
around_is base chain c p even fits = past_link base chain c (pointer p) even fits

beq_self : (b : Bool) → beq b b ≡ true
beq_self true = refl
beq_self false = refl

beq_not : (b : Bool) → beq (not b) b ≡ false
beq_not true = refl
beq_not false = refl

-- A TRB that is stored with the current cycle is the consumer's when it comes there in that state, and one with the opposite cycle is not.
pub visible : (t : Trb) (p : Position) → owned (words_of t p.cycle) (pointer p) ≡ true
visible t p = owned_is t p.cycle (pointer p) ∙ beq_self p.cycle

pub hidden : (t : Trb) (p : Position) → owned (words_of t (not p.cycle)) (pointer p) ≡ false
hidden t p = owned_is t (not p.cycle) (pointer p) ∙ beq_not p.cycle

-- ---- one slot only

module _ (ring : List ℕ) (place : ℕ) (t : Trb) (c : Bool) (fits : 4 * place + 4 ≤ length ring) where
  pub store_length : length (store_at ring place t c) ≡ length ring
  unfolding store_at
  store_length = words_length ring place (words_of t c) fits

  -- The store lands whole.
  pub store_same : words_at (store_at ring place t c) place ≡ words_of t c
  unfolding store_at
  store_same = words_same ring place (words_of t c) fits

  -- Every other slot is as it was.
  pub store_other : (i : ℕ) → (i ≡ place → ⊥) → words_at (store_at ring place t c) i ≡ words_at ring i
  unfolding store_at
  store_other i differs = words_other ring place (words_of t c) fits i differs

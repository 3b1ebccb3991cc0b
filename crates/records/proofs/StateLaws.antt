-- A state is read back from its word, and the test of two states decides whether they are the same. Assumes nothing.
use mathlib.Core.Bool.{Bool, true, false}
use Prim.Native.Nat.{ℕ}
use mathlib.Core.Path.{◌≡◌, refl, sym, ◌∙◌, ap}
use native.Mathlib.Omega.{arith}
use borrow.Author.Tests.{eqb-true, eqb-false, eq-eqb}
use Rattle.std.specs.Prelude.{Option, Some, None}
use lib.Dec.{eqb}
use Rattle.base.specs.First.{pick}
use Rattle.base.proofs.Decide.{Decides, if_not}
use Rattle.records.specs.States.{state_number, state_in, word_of_state, state_is, in_flight, stopped}
use Rattle.records.specs.declared.State.{State}
use Rattle.records.specs.declared.State.TheVariants.{InFlight, Stopped}

-- A state is read back from its word.
pub state_read : (state : Option State) → state_in (word_of_state state) ≡ state
state_read None = refl
state_read (Some InFlight) = refl
state_read (Some Stopped) = refl

-- A word that says a state is that state's.
pub state_said : (word : ℕ) (state : State) → state_in word ≡ Some state → word ≡ state_number state
state_said word state said = by (eqb word 1) (eqb word 2) refl refl said
  where
    by : (f s : Bool) → eqb word 1 ≡ f → eqb word 2 ≡ s → pick f (Some InFlight) (pick s (Some Stopped) None) ≡ Some state → word ≡ state_number state
    by true s flies stops q = eqb-true word 1 flies ∙ ap word_of_state q
    by false true flies stops q = eqb-true word 2 stops ∙ ap word_of_state q
    by false false flies stops q = cc

-- The five readings of the test.
pub state_true : (a b : ℕ) → state_is a b ≡ true → a ≡ b
state_true a b t = eqb-true a b t

pub eq_state : (a b : ℕ) → a ≡ b → state_is a b ≡ true
eq_state a b q = eq-eqb a b q

pub state_false : (a b : ℕ) → state_is a b ≡ false → a ≡ b → ⊥
state_false a b t q = eqb-false a b t q

pub by_state : (a b : ℕ) → Decides (state_is a b) (a ≡ b)
by_state a b = record { so = state_true a b; not_so = state_false a b }

pub ne_state : (a b : ℕ) → (a ≡ b → ⊥) → state_is a b ≡ false
ne_state a b n = if_not (by_state a b) n

-- A state in flight is not stopped.
pub flying_not_stopped : (a : ℕ) → a ≡ in_flight → a ≡ stopped → ⊥
flying_not_stopped a flies stops = let same : in_flight ≡ stopped = sym flies ∙ stops in omega arith

-- The controller that the programs run (crate `controller`, a function on the ring's words) is the one that the order theorem speaks of: on any words, from
-- any slot, it does the same and goes to the same place. Assumes nothing.
use Prim.Native.Nat.{ℕ}
use mathlib.Core.Bool.{Bool, true, false}
use mathlib.Core.List.{List}
use mathlib.Core.Path.{◌≡◌, refl}
use lib.Dec.{eqb}
use Rattle.base.specs.First.{pick}
use Rattle.trb.specs.Cycle.{owned, type_of}
use Rattle.trb.specs.Layouts.{words_at}
use Rattle.trb.specs.declared.Words.{Words}
use Rattle.controller.specs.Rule as program
use Rattle.controller.specs.declared.Consumer.{Consumer}
use Rattle.controller.specs.declared.Step.{Step}
use Rattle.controller.specs.declared.Step.TheVariants.{Nothing, Linked, Took}
use Rattle.promise.specs.Controller.{Does, waits, follows, consumes, does, goes, outset}

-- What the program calls a step.
abbrev pub named : Does → Step
named waits = Nothing
named follows = Linked
named (consumes t) = Took t

same_name : (own link : Bool) (t : Words) → named (pick own (pick link follows (consumes t)) waits) ≡ pick own (pick link Linked (Took t)) Nothing
same_name true true t = refl
same_name true false t = refl
same_name false link t = refl

same_place : (x : Does) (c : Consumer) → program.pointer (program.goes (named x) c) ≡ goes x (program.pointer c)
same_place waits c = refl
same_place follows c = refl
same_place (consumes t) c = refl

module _ (ring : List ℕ) (c : Consumer) where
  -- It does the same,
  pub does_the_same : named (does ring (program.pointer c)) ≡ (program.step ring c).step
  unfolding does program.step program.does
  does_the_same =
      let t = words_at ring c.slot in same_name (owned t (program.pointer c)) (eqb (type_of t) 6) t

  -- goes to the same place,
  pub goes_the_same : program.pointer (program.step ring c).after ≡ goes (does ring (program.pointer c)) (program.pointer c)
  unfolding does program.step program.does
  goes_the_same =
      let t = words_at ring c.slot in
      rw (← same_name (owned t (program.pointer c)) (eqb (type_of t) 6) t) (same_place (does ring (program.pointer c)) c)

-- and starts at the same place.
pub starts_the_same : program.pointer program.origin ≡ outset
starts_the_same = refl

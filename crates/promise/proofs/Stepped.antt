-- A step of the controller keeps the invariant: it is the model's step. Assumes nothing.
use Prim.Native.Nat.{ℕ, ◌<◌, ◌≤◌}
use mathlib.Core.Bool.{Bool, true, false, beq}
use mathlib.Core.List.{List, [], ◌∷◌}
use mathlib.Core.Path.{◌≡◌, refl, subst}
use native.Mathlib.Numerals.{add-one}
use native.Mathlib.Omega.{arith}
use lib.Dec.{eqb}
use lib.ListN.{length, length-append}
use Rattle.base.specs.First.{pick}
use Rattle.trb.specs.Cycle.{Pointer, cycle_of, owned, type_of}
use Rattle.trb.specs.Layouts.{words_at}
use Rattle.trb.specs.declared.Words.{Words}
use Rattle.order.specs.Flat.{flat, link_type}
use Rattle.order.specs.Model as model
use Rattle.order.proofs.Moves.{Inv, step_keeps}
use Rattle.order.proofs.Numbers.{Numbered, step_numbered}
use Rattle.promise.specs.Controller.{Entry, Does, waits, follows, consumes, does, goes, with}
use Rattle.promise.specs.Run.{World, stepped}
use Rattle.promise.proofs.Laid.{bared}
use Rattle.promise.proofs.Kept.{pointer_of, model_in, Kept}

module _ (K : ℕ) (w : World) (before : ℕ) (work : model.Work (flat K)) where
  -- The world after the controller has done x.
  abbrev after : Does → World
  after x = record {
    dock = w.dock;
    controller = goes x w.controller;
    consumed = with x w.controller w.consumed;
    asked = w.asked;
    trbs = w.trbs;
    earlier = w.earlier;
    first = w.first;
    until = w.until;
    heard = w.heard;
  }

  by_tests : (t : Words) (mine link : Bool)
      → model.step_as (model_in K w before work) (pointer_of w.controller) t mine link
      ≡ model_in K (after (pick mine (pick link follows (consumes t)) waits)) before work
  by_tests t false link = refl
  by_tests t true true = refl
  by_tests t true false = rw add-one

  pub step_is : model.step (model_in K w before work) ≡ model_in K (stepped w) before work
  unfolding model.step stepped does owned link_type
  step_is =
      let t = words_at w.dock.ring w.controller.slot in
      by_tests t (beq (cycle_of t) w.controller.state) (eqb (type_of t) 6)

longer : (x : Does) (c : Pointer) (l : List Entry) → length l ≤ length (with x c l)
longer waits c l = omega arith
longer follows c l = omega arith
longer (consumes t) c l = omega (arith, length-append l (record { at = c.slot; trb = t } ∷ []))

pub stepped_kept : (w : World) → Kept w → Kept (stepped w)
unfolding stepped
stepped_kept w k =
    let same = step_is k.K w k.before k.work in
    let some : 0 < k.K = omega (arith, k.some_slot) in
    let s = model_in k.K w k.before k.work in
    record {
      K = k.K;
      some_slot = k.some_slot;
      shape = k.shape;
      link_slot = k.link_slot;
      before = k.before;
      work = k.work;
      inv = subst (λ (x : model.State (flat k.K)). Inv x) same (step_keeps some s k.inv);
      numbered = subst (λ (x : model.State (flat k.K)). Numbered x (bared w.trbs)) same (step_numbered some s (bared w.trbs) k.numbered);
      under = k.under;
      begun = k.begun;
      stored = k.stored;
      split = k.split;
      heard_consumed = omega (arith, k.heard_consumed, longer (does w.dock.ring w.controller) w.controller w.consumed);
      places = k.places;
      flights = k.flights;
    }

-- DEMAND 3, of every state that a run reaches. Document 01's calls in any order and with any arguments, and the controller's steps anywhere:
--   1. `in_order`: what the controller has consumed is a front part of the TRBs of the admitted requests, in order, in their slots and with their final words.
--   2. `control_unseen`: while a submission is under way and the request that was admitted for it is a control request, it is a front part of those admitted
--      before it: none of its own is consumed. `deferred_unseen`: so it is where the request's TD is deferred, of whatever kind.
--      `under_way_last`: the TRBs of that request are the last of the list.
--   3. `drains`: with no submission under way, L-1 steps of the controller, or more, consume the remainder; `drains_by_count`: one step more than TRBs wait is
--      enough; `in_ring`: until then the remainder stands in the ring, slot by slot, with its final words.
-- What was asked, and L, are those of the making and of the calls that were admitted, not the dock's own (`World`, `asked`).
-- Assumes nothing.
use Prim.Native.Nat.{ℕ, zero, suc, ◌+◌, ◌-◌, ◌<◌, ◌≤◌}
use mathlib.Core.Bool.{true, false, false≢true}
use mathlib.Core.List.{List, ◌++◌}
use mathlib.Core.Path.{◌≡◌, refl, sym, ap, ◌∙◌, subst}
use native.Mathlib.Omega.{arith}
use lib.ListN.{length, take, drop}
use Rattle.dock.specs.Trbs.{deferred}
use Rattle.order.specs.Flat.{flat}
use Rattle.order.specs.Model.{Deferring}
use Rattle.order.specs.Model as model
use Rattle.order.proofs.Index.{pos}
use Rattle.order.proofs.Moves.{length_layout}
use Rattle.order.proofs.Order.{Front, InRing, inv_in_order, inv_deferred_unseen, inv_drains, inv_drains_by_count, inv_in_ring}
use Rattle.promise.specs.Controller.{Entry}
use Rattle.promise.specs.Requested.{last_trbs, controls, defers}
use Rattle.promise.specs.Run.{World, slots, admitted, under_way, stepped, stepping, Run}
use Rattle.promise.proofs.Agreed.{record_under_way, first_under_way, Agreed, slots_are, deferred_is, control_defers, run_agreed}
use Rattle.promise.proofs.Handed.{idle_kept}
use Rattle.promise.proofs.Kept.{model_in, Under, rests, opens, shows, hides, Kept}
use Rattle.promise.proofs.Laid.{bared, bared_length, laid_out_lem}
use Rattle.promise.proofs.Reach.{under_way_is, run_kept}
use Rattle.promise.proofs.Stepped.{step_is}

module _ (w : World) (g : Agreed w) (k : Kept w) where
  some_place : 0 < k.K
  some_place = omega (arith, k.some_slot)

  pub slots_so : slots w ≡ suc k.K
  slots_so = slots_are w g ∙ k.shape

  abbrev m : model.State (flat k.K)
  m = model_in k.K w k.before k.work

  -- The model's list of admitted TRBs is the list that is computed from the requests.
  pub admitted_is : m.admitted ≡ admitted w
  admitted_is = laid_out_lem k.K (slots w) some_place slots_so 0 w.trbs

  kept_in_order : Front w.consumed (admitted w)
  kept_in_order = rw (← admitted_is) (inv_in_order m k.inv)

  -- While a submission whose TD is deferred is under way, so is the model's TD, and the books have its mark.
  deferring : w.dock.endpoint.work.busy ≡ true → deferred (record_under_way w) ≡ true
      → Under k.K w.dock.endpoint w.dock.records w.dock.packets (first_under_way w) k.before k.work
      → Deferring k.work × (k.before ≡ first_under_way w)
  deferring busy late (rests u) = absurd (false≢true (sym u.free ∙ busy))
  deferring busy late (opens u) = (rw u.is tt, u.marked)
  deferring busy late (shows u) = absurd (false≢true (sym u.early ∙ late))
  deferring busy late (hides u) = (rw u.is tt, u.marked)

  kept_unseen : w.dock.endpoint.work.busy ≡ true → deferred (record_under_way w) ≡ true → Front w.consumed (take (first_under_way w) (admitted w))
  kept_unseen busy late =
      let d = deferring busy late k.under in
      rw (← admitted_is, ← d.1) (inv_deferred_unseen m k.inv d.0)

-- The model's steps are the controller's.
steps_are : (K n : ℕ) (w : World) (before : ℕ) (work : model.Work (flat K))
    → model.steps n (model_in K w before work) ≡ model_in K (stepping n w) before work
unfolding model.steps stepping
steps_are K zero w before work = refl
steps_are K (suc n) w before work = ap (model.steps n) (step_is K w before work) ∙ steps_are K n (stepped w) before work

-- ---- the theorem

pub in_order : {w : World} → Run w → Front w.consumed (admitted w)
in_order {w} r = kept_in_order w (run_agreed r) (run_kept r)

-- Of the dock's own record.
record_unseen : {w : World} → Run w → w.dock.endpoint.work.busy ≡ true → deferred (record_under_way w) ≡ true
    → Front w.consumed (take w.earlier (admitted w))
record_unseen {w} r busy late =
    let g = run_agreed r in
    rw (← (g.of_last busy).marked) (kept_unseen w g (run_kept r) busy late)

pub deferred_unseen : {w : World} → Run w → under_way w ≡ true → defers w.asked.last ≡ true
    → Front w.consumed (take w.earlier (admitted w))
deferred_unseen {w} r under late = let busy = sym (under_way_is r) ∙ under in record_unseen r busy (deferred_is w (run_agreed r) busy ∙ late)

pub control_unseen : {w : World} → Run w → under_way w ≡ true → controls w.asked.last ≡ true
    → Front w.consumed (take w.earlier (admitted w))
control_unseen {w} r under kind = let busy = sym (under_way_is r) ∙ under in record_unseen r busy (control_defers w (run_agreed r) busy kind)

pub drains : {w : World} → Run w → under_way w ≡ false → (n : ℕ) → slots w - 1 ≤ n → (stepping n w).consumed ≡ admitted w
drains {w} r free n enough =
    let g = run_agreed r in
    let k = run_kept r in
    ap (λ (s : model.State (flat k.K)). s.consumed) (sym (steps_are k.K n w k.before k.work))
    ∙ inv_drains (some_place w g k) (m w g k) k.inv refl (idle_kept w k (sym (under_way_is r) ∙ free)) n (omega (arith, slots_so w g k))
    ∙ admitted_is w g k

pub drains_by_count : {w : World} → Run w → under_way w ≡ false → (n : ℕ) → length w.trbs < length w.consumed + n
    → (stepping n w).consumed ≡ admitted w
drains_by_count {w} r free n enough =
    let g = run_agreed r in
    let k = run_kept r in
    ap (λ (s : model.State (flat k.K)). s.consumed) (sym (steps_are k.K n w k.before k.work))
    ∙ inv_drains_by_count (some_place w g k) (m w g k) k.inv refl (idle_kept w k (sym (under_way_is r) ∙ free)) n
    (omega (arith, length_layout (flat k.K) (pos k.K 0) (bared w.trbs), bared_length w.trbs))
    ∙ admitted_is w g k

-- While a submission is under way, of any kind, the TRBs behind those that were admitted before it are those of the last request, under the last settings.
pub under_way_last : {w : World} → Run w → under_way w ≡ true → drop w.earlier w.trbs ≡ last_trbs w.asked.settings w.asked.last
under_way_last r under = let o = (run_agreed r).of_last (sym (under_way_is r) ∙ under) in rw o.last o.its_own

-- What is admitted and not consumed, and that it is there.
pub record Waiting (w : World) : Type 0 where
  pub rest : List Entry
  pub whole : w.consumed ++ rest ≡ admitted w
  pub there : InRing (flat (slots w - 1)) w.dock.ring rest

pub in_ring : {w : World} → Run w → under_way w ≡ false → Waiting w
in_ring {w} r free =
    let g = run_agreed r in
    let k = run_kept r in
    let s = inv_in_ring (some_place w g k) (m w g k) k.inv (idle_kept w k (sym (under_way_is r) ∙ free)) in
    let same : k.K ≡ slots w - 1 = omega (arith, slots_so w g k) in
    record {
      rest = s.rest;
      whole = s.whole ∙ admitted_is w g k;
      there = subst (λ (n : ℕ). InRing (flat n) w.dock.ring s.rest) same s.there;
    }

-- The controller of document 01 goes on as the standard's consumer does (4.9.2, `past` in `trb`): in every state that a run reaches, where the TRB at its slot is
-- its own, it goes past a link to where the link points, with its state toggled as the link says, and past any other TRB by one slot. Assumes nothing.
use Prim.Native.Nat.{ℕ, ◌+◌}
use mathlib.Core.Bool.{Bool, true, false, not, beq, false≢true}
use mathlib.Core.Logic.{⊎_elim}
use mathlib.Core.Path.{◌≡◌, sym, ap, ◌∙◌, subst}
use native.Mathlib.Omega.{arith}
use borrow.Author.Tests.{eqb-true, eqb-false}
use lib.Dec.{eqb}
use Rattle.ids.proofs.AnyLaws.{true_or_false}
use Rattle.trb.specs.Cycle.{Pointer, past, owned, type_of, cycle_of}
use Rattle.trb.specs.Layouts.{words_at}
use Rattle.trb.specs.declared.Words.{Words}
use Rattle.trb.proofs.CycleLaws.{past_link}
use Rattle.dock.proofs.Reached.{Sound}
use Rattle.dock.proofs.RefusalTestLaws.{by_limits}
use Rattle.order.specs.Flat.{flat, link_type}
use Rattle.order.proofs.Invariant.{View, waits, follows, consumes, view}
use Rattle.promise.specs.Controller.{does, goes}
use Rattle.promise.specs.Run.{World, Run}
use Rattle.promise.proofs.Agreed.{run_agreed}
use Rattle.promise.proofs.Kept.{position_of, pointer_of, Kept}
use Rattle.promise.proofs.Reach.{run_sound, run_kept}

not_other : (a b : Bool) → beq a b ≡ true → a ≡ not b → ⊥
not_other true true e q = false≢true (sym q)
not_other true false e q = false≢true e
not_other false true e q = false≢true e
not_other false false e q = false≢true q

module _ (w : World) (h : Sound w.dock) (k : Kept w) where
  abbrev c : Pointer
  c = w.controller

  abbrev t : Words
  t = words_at w.dock.ring c.slot

  abbrev base : ℕ
  base = w.dock.endpoint.shape.base

  -- A link that the controller owns stands in slot L-1.
  link_at : owned t c ≡ true → type_of t ≡ 6 → c.slot ≡ k.K
  unfolding owned link_type
  link_at own is =
      by (view (flat k.K) (omega (arith, k.some_slot)) w.dock.ring (position_of w.dock.endpoint.at)
      k.inv.C k.inv.E k.inv.P k.inv.hidden (pointer_of c) k.inv.queue k.inv.good)
    where
      by : View (flat k.K) w.dock.ring (pointer_of c) k.inv.C k.inv.queue → c.slot ≡ k.K
      by (waits other none_left) = absurd (not_other (cycle_of t) c.state own other)
      by (follows at-link same is_link_lem) = at-link
      by (consumes x xs queue-is here read_is x-plain) =
          absurd (eqb-false (type_of t) 6 (ap link_type read_is ∙ (flat k.K).link_with c.state x ∙ x-plain) is)

  past_own_link : owned t c ≡ true → type_of t ≡ 6 → past base t c ≡ record { slot = 0; state = not c.state }
  past_own_link own is =
      let at = link_at own is in
      let link = k.link_slot (subst (λ (i : ℕ). type_of (words_at w.dock.ring i) ≡ 6) at is) in
      let limits = (by_limits w.dock.endpoint.shape w.dock.endpoint.who).so h.limits in
      ap (λ (i : ℕ). past base (words_at w.dock.ring i) c) at
      ∙ ap (λ (x : Words). past base x c) link.2
      ∙ past_link base link.0 link.1 c (omega (arith, limits.base_aligned)) (omega (arith, limits.base_room, limits.slots_least))

  past_plain : eqb (type_of t) 6 ≡ false → past base t c ≡ record { slot = c.slot + 1; state = c.state }
  unfolding past
  past_plain q = rw q

  kept_goes : owned t c ≡ true → goes (does w.dock.ring c) c ≡ past base t c
  unfolding does
  kept_goes own =
      ⊎_elim
      (λ (q : eqb (type_of t) 6 ≡ true). rw (own, q) (sym (past_own_link own (eqb-true _ _ q))))
      (λ (q : eqb (type_of t) 6 ≡ false). rw (own, q) (sym (past_plain q)))
      (true_or_false (eqb (type_of t) 6))

pub as_the_standard : {w : World} → Run w → owned (words_at w.dock.ring w.controller.slot) w.controller ≡ true
    → goes (does w.dock.ring w.controller) w.controller ≡ past w.asked.shape.base
    (words_at w.dock.ring w.controller.slot) w.controller
as_the_standard {w} r own = rw (← (run_agreed r).shape) (kept_goes w (run_sound r) (run_kept r) own)

-- Every state that a run reaches is one that the dock's calls reach, and has the invariant; and the next store is served where the dock's state says that a
-- submission is under way. Assumes nothing.
use mathlib.Core.Bool.{Bool, true, false, false≢true}
use mathlib.Core.Logic.{⊎_elim}
use mathlib.Core.Path.{◌≡◌, refl, sym, ap, ◌∙◌, subst}
use native.Mathlib.Omega.{arith}
use Rattle.base.specs.First.{pick}
use Rattle.ids.proofs.AnyLaws.{true_or_false}
use Rattle.dock.proofs.ReachedFitLaws.{store_number}
use Rattle.dock.proofs.ReachedSoundLaws.{reached_sound}
use Rattle.dock.proofs.Reached.{Sound}
use Rattle.dock.specs.Run.{State, making, Call, configures, starts, stores, submits, reclaims, cancels, retires, begins, ends, stops, resumes, points, Reached, next}
use Rattle.dock.specs.Run as dock
use Rattle.dock.proofs.RetireLaws.{picked}
use Rattle.promise.specs.Run.{World, Part, setting, opening, filling, aside, outside, part, admits, under_way, booked, handed, stepped, Move, calls, hands, steps, act, may, Run, made, and_then}
use Rattle.promise.proofs.Agreed.{store_yes, store_no_lem, Agreed, run_agreed}
use Rattle.promise.proofs.Flying.{configured_kept, cancelled_kept}
use Rattle.promise.proofs.Handed.{handed_kept}
use Rattle.promise.proofs.Kept.{Kept}
use Rattle.promise.proofs.Made.{made_kept}
use Rattle.promise.proofs.Reclaimed.{reclaimed_kept}
use Rattle.promise.proofs.Started.{started_kept}
use Rattle.promise.proofs.Stepped.{stepped_kept}
use Rattle.promise.proofs.Stored.{stored_kept}

-- The books leave the dock as the call does.
pub booked_dock : (w : World) (d : State) (granted : Bool) (p : Part) → (booked w d granted p).dock ≡ d
booked_dock w d granted (setting packet burst interval) = picked (λ (x : World). x.dock ≡ d) granted _ _ (λ t. refl) (λ t. refl)
booked_dock w d granted (opening request lengths) = picked (λ (x : World). x.dock ≡ d) granted _ _ (λ t. refl) (λ t. refl)
booked_dock w d granted filling = refl
booked_dock w d granted aside = refl
booked_dock w d granted outside = refl

act_reached : (w : World) (m : Move) → Reached w.dock → Reached (act w m).dock
unfolding handed stepped
act_reached w (calls c) r = subst Reached (sym (booked_dock w _ (admits w c) (part c))) (next r c)
act_reached w (hands event nth) r = next r (dock.hands event)
act_reached w steps r = r

pub run_reached : {w : World} → Run w → Reached w.dock
run_reached (made ring finished records packets shape who done) = dock.made (making ring finished records packets shape who done)
run_reached (and_then {w} r m allowed) = act_reached w m (run_reached r)

pub run_sound : {w : World} → Run w → Sound w.dock
run_sound r = reached_sound (run_reached r)

-- The next store is served where the dock's state says that a submission is under way.
pub under_way_is : {w : World} → Run w → under_way w ≡ w.dock.endpoint.work.busy
under_way_is {w} r =
    let row = store_number (run_reached r) in
    ⊎_elim
    (λ (busy : w.dock.endpoint.work.busy ≡ true). store_yes w (row ∙ ap (λ (b : Bool). pick b 0 10) busy) ∙ sym busy)
    (λ (free : w.dock.endpoint.work.busy ≡ false).
    store_no_lem w (λ p. let ten : 0 ≡ 10 = sym p ∙ row ∙ ap (λ (b : Bool). pick b 0 10) free in omega arith) ∙ sym free)
    (true_or_false w.dock.endpoint.work.busy)

call_kept : (w : World) (c : Call) → Sound w.dock → Agreed w → Kept w → may w (calls c) ≡ true → Kept (act w (calls c))
call_kept w (configures packet burst interval) h g k allowed = configured_kept w packet burst interval k
call_kept w (starts request lengths) h g k allowed = started_kept w request lengths h g k allowed
call_kept w stores h g k allowed = stored_kept w h k
call_kept w (submits request lengths) h g k allowed = absurd (false≢true allowed)
call_kept w (dock.hands event) h g k allowed = absurd (false≢true allowed)
call_kept w (reclaims id) h g k allowed = reclaimed_kept w h k id
call_kept w (cancels id) h g k allowed = cancelled_kept w id k
call_kept w retires h g k allowed = absurd (false≢true allowed)
call_kept w begins h g k allowed = absurd (false≢true allowed)
call_kept w (ends worked) h g k allowed = absurd (false≢true allowed)
call_kept w stops h g k allowed = k
call_kept w resumes h g k allowed = k
call_kept w points h g k allowed = k

act_kept : (w : World) (m : Move) → Sound w.dock → Agreed w → Kept w → may w m ≡ true → Kept (act w m)
act_kept w (calls c) h g k allowed = call_kept w c h g k allowed
act_kept w (hands event nth) h g k allowed = handed_kept w event nth h g k allowed
act_kept w steps h g k allowed = stepped_kept w k

pub run_kept : {w : World} → Run w → Kept w
run_kept (made ring finished records packets shape who done) = made_kept ring finished records packets shape who done
run_kept (and_then {w} r m allowed) = act_kept w m (run_sound r) (run_agreed r) (run_kept r) allowed

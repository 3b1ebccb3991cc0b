-- Runs whose submissions are whole. Each is a run (`whole_run`), no submission is under way between its moves (`whole_rests`), and a whole submission leaves the
-- dock as the definition of that call says, whatever steps the controller takes between its stores (`submitted_is`). So what is consumed is a front part of what
-- is admitted, and L-1 steps consume the remainder, between any two moves. Assumes nothing.
use Rattle.std.specs.Prelude.{Result, ⊤}
use Prim.Native.Nat.{ℕ, zero, suc, ◌-◌, ◌≤◌}
use mathlib.Core.Bool.{true, false, ◌&&◌, false≢true}
use mathlib.Core.List.{List}
use mathlib.Core.Logic.{⊎_elim}
use mathlib.Core.Path.{◌≡◌, refl, sym, ap, ◌∙◌}
use native.Mathlib.Omega.{arith}
use borrow.Author.Tests.{not-false}
use lib.Dec.{eqb}
use lib.ListN.{length}
use Rattle.base.proofs.Compare.{same_or_not}
use Rattle.base.proofs.Decide.{if_so, both, by_eqb}
use Rattle.ids.proofs.AnyLaws.{true_or_false}
use Rattle.dock.specs.declared.After.{After}
use Rattle.dock.specs.declared.Stored.{Stored}
use Rattle.dock.specs.declared.Refusal.{Refusal}
use Rattle.dock.specs.declared.Submitted.{Submitted}
use Rattle.dock.specs.declared.Reclaimed.{Reclaimed}
use Rattle.dock.specs.declared.Endpoint.{Endpoint}
use Rattle.dock.specs.declared.Identity.{Identity}
use Rattle.dock.specs.declared.Request.{Request}
use Rattle.dock.specs.declared.Shape.{Shape}
use Rattle.dock.specs.declared.Work.{Work}
use Rattle.dock.specs.Configure.{configure, plain_no}
use Rattle.sizes.specs.Sizes.{ring_size}
use Rattle.dock.specs.Make.{make, make_no}
use Rattle.dock.specs.Reclaim.{leave, nothing, reclaim}
use Rattle.dock.specs.Start.{start_no}
use Rattle.dock.specs.NextStore.{store, store_no, store_tests}
use Rattle.dock.specs.Submit.{submit_no, finish, most_stores}
use Rattle.dock.specs.Submit as submitting
use Rattle.dock.proofs.SubmitEndLaws.{submit_done}
use Rattle.dock.proofs.ReachedSoundLaws.{Untouched, Looked, reclaim_result}
use Rattle.dock.proofs.Reached.{Sound, flight_part}
use Rattle.dock.specs.Run.{State, state_of, made_of, Call, configures, starts, stores, submits, reclaims, cancels, retires, begins, ends, stops, resumes, points, after}
use Rattle.dock.specs.Run as dock
use Rattle.dock.proofs.ReclaimLaws.{Left}
use Rattle.dock.proofs.RefusalLaws.{start_acts, start_refuses, store_exact, store_refuses, submit_as_start, submit_acts, submit_refuses}
use Rattle.dock.proofs.RetireLaws.{picked}
use Rattle.dock.proofs.StoreStepLaws.{store_goes_on, store_ends}
use Rattle.dock.proofs.StoreLaws.{last_store}
use Rattle.order.proofs.Order.{Front}
use Rattle.promise.specs.Requested.{typed}
use Rattle.promise.specs.Run.{World, slots, admitted, part, admits, under_way, handed, stepped, stepping, Move, calls, hands, steps, act, Run}
use Rattle.promise.specs.Run as run
use Rattle.promise.specs.Whole.{storing, submitted, is_aside, between, WholeRun, made, and_then, and_submits}
use Rattle.promise.proofs.Order.{in_order, drains}
use Rattle.promise.proofs.Reach.{booked_dock, run_sound, under_way_is}

-- ---- the stores of a submission, by themselves

-- n stores.
stores_of : ℕ → State → State
stores_of zero s = s
stores_of (suc n) s = stores_of n (after s stores)

abbrev number_of : State → ℕ
number_of s = store_no s.endpoint (length s.ring) (length s.finished) s.records (length s.packets)

-- A store that is refused changes nothing,
refused_stays : (s : State) → (number_of s ≡ 0 → ⊥) → after s stores ≡ s
refused_stays s p =
    ap (λ (a : After Stored × List ℕ × List ℕ). state_of a.0.endpoint a.1 a.2 s.records s.packets)
    (store_refuses s.endpoint s.ring s.finished s.records s.packets p)

-- and with no submission under way every store is refused.
rest_stays : (s : State) → s.endpoint.work.busy ≡ false → after s stores ≡ s
unfolding store_tests
rest_stays s free =
    refused_stays s
    (λ p. false≢true (sym free ∙ not-false _ ((store_exact s.endpoint s.ring s.finished s.records s.packets).passed p 1 (omega arith))))

-- So do many.
stays : (n : ℕ) (s : State) → after s stores ≡ s → stores_of n s ≡ s
unfolding stores_of
stays zero s q = refl
stays (suc n) s q = ap (stores_of n) q ∙ stays n s q

-- The stores that are left, as the definition of a whole submission has them.
after_finish : ℕ → State → State
after_finish n s =
    let a = finish n s.endpoint s.ring s.finished s.records s.packets in
    state_of a.0.endpoint a.1 a.2 s.records s.packets

module _ (n : ℕ) (s : State) where
  abbrev one : After Stored × List ℕ × List ℕ
  one = store s.endpoint s.ring s.finished s.records s.packets

  -- What follows a store, by its answer.
  finish_by : (x : Result Stored Refusal) → one.0.answer ≡ x → after_finish (suc n) s
      ≡ (let a =
      submitting.after_store x one.0.endpoint one.1 one.2 (λ e ring finished. finish n e ring finished s.records s.packets) in
      state_of a.0.endpoint a.1 a.2 s.records s.packets)
  unfolding after_finish finish
  finish_by x q =
      ap (λ (y : Result Stored Refusal).
      let a = submitting.after_store y one.0.endpoint one.1 one.2 (λ e ring finished. finish n e ring finished s.records s.packets) in
      state_of a.0.endpoint a.1 a.2 s.records s.packets)
      q

  -- The submission goes on,
  finish_on : number_of s ≡ 0 → last_store s.endpoint s.records s.packets ≡ false → after_finish (suc n) s ≡ after_finish n (after s stores)
  unfolding after_finish
  finish_on p more =
      finish_by _ (ap (λ (a : After Stored). a.answer) (store_goes_on s.endpoint s.ring s.finished s.records s.packets p more))

  -- or it ends.
  finish_last : number_of s ≡ 0 → last_store s.endpoint s.records s.packets ≡ true → after_finish (suc n) s ≡ after s stores
  finish_last p last =
      finish_by _ (ap (λ (a : After Stored). a.answer) (store_ends s.endpoint s.ring s.finished s.records s.packets p last))

  finish_refused : (number_of s ≡ 0 → ⊥) → after_finish (suc n) s ≡ after s stores
  finish_refused p =
      finish_by _ (ap (λ (a : After Stored × List ℕ × List ℕ). a.0.answer)
      (store_refuses s.endpoint s.ring s.finished s.records s.packets p))

  over_rests : number_of s ≡ 0 → last_store s.endpoint s.records s.packets ≡ true → (after s stores).endpoint.work.busy ≡ false
  over_rests p last =
      ap (λ (a : After Stored). a.endpoint.work.busy) (store_ends s.endpoint s.ring s.finished s.records s.packets p last)

stores_finish : (n : ℕ) (s : State) → stores_of n s ≡ after_finish n s
unfolding stores_of after_finish finish
stores_finish zero s = refl
stores_finish (suc n) s =
    ⊎_elim
    (λ (p : number_of s ≡ 0).
    ⊎_elim
    (λ (last : last_store s.endpoint s.records s.packets ≡ true).
    stays n (after s stores) (rest_stays (after s stores) (over_rests n s p last)) ∙ sym (finish_last n s p last))
    (λ (more : last_store s.endpoint s.records s.packets ≡ false). stores_finish n (after s stores) ∙ sym (finish_on n s p more))
    (true_or_false (last_store s.endpoint s.records s.packets)))
    (λ (p : number_of s ≡ 0 → ⊥).
    let same = refused_stays s p in
    ap (stores_of n) same ∙ stays n s same ∙ sym same ∙ sym (finish_refused n s p))
    (same_or_not (number_of s) 0)

-- ---- a whole submission

-- The controller's steps leave the dock,
stepping_dock : (n : ℕ) (w : World) → (stepping n w).dock ≡ w.dock
unfolding stepping stepped
stepping_dock zero w = refl
stepping_dock (suc n) w = stepping_dock n (stepped w)

-- so the stores are those of the dock alone.
storing_dock : (n : ℕ) (pauses : ℕ → ℕ) (w : World) → (storing n pauses w).dock ≡ stores_of n w.dock
unfolding storing stores_of
storing_dock zero pauses w = refl
storing_dock (suc n) pauses w =
    storing_dock n pauses (act (stepping (pauses n) w) (calls stores)) ∙ ap (λ (s : State). stores_of n (after s stores)) (stepping_dock (pauses n) w)

started_dock : (w : World) (request : Request) (lengths : List ℕ) → (act w (calls (starts request lengths))).dock ≡ after w.dock (starts request lengths)
started_dock w request lengths = booked_dock w _ (admits w (starts request lengths)) (part (starts request lengths))

module _ (w : World) (h : Sound w.dock) (request : Request) (lengths : List ℕ) (pauses : ℕ → ℕ) where
  abbrev s : State
  s = w.dock

  fit : (eqb (length s.ring) (ring_size s.endpoint.shape.slots) && eqb (length s.finished) (ring_size s.endpoint.shape.slots)) ≡ true
  fit =
      if_so (both (by_eqb (length s.ring) (ring_size s.endpoint.shape.slots))
      (by_eqb (length s.finished) (ring_size s.endpoint.shape.slots)))
      (h.ring_long, h.finished_long)

  as_start : submit_no s.endpoint (length s.ring) (length s.finished) s.records (length s.packets) request lengths
      ≡ start_no s.endpoint s.records (length s.packets) request lengths
  as_start = submit_as_start s.endpoint s.ring s.finished s.records s.packets request lengths fit

  stored_dock : (submitted w request lengths pauses).dock ≡ after_finish (most_stores request (length lengths)) (after s (starts request lengths))
  unfolding submitted
  stored_dock =
      storing_dock (most_stores request (length lengths)) pauses (act w (calls (starts request lengths)))
      ∙ ap (stores_of (most_stores request (length lengths))) (started_dock w request lengths)
      ∙ stores_finish (most_stores request (length lengths)) (after s (starts request lengths))

  abbrev passes : Type 0
  passes = start_no s.endpoint s.records (length s.packets) request lengths ≡ 0

  admitted_is : passes → (submitted w request lengths pauses).dock ≡ after s (submits request lengths)
  unfolding after_finish
  admitted_is p =
      stored_dock
      ∙ ap (λ (a : After ⊤ × List ℕ × List ℕ). after_finish (most_stores request (length lengths))
      (state_of a.0.endpoint s.ring s.finished a.1 a.2))
      (start_acts s.endpoint s.records s.packets request lengths p)
      ∙ ap (λ (a : After Submitted × List ℕ × List ℕ × List ℕ × List ℕ). state_of a.0.endpoint a.1 a.2 a.3 a.4)
      (sym (submit_acts s.endpoint s.ring s.finished s.records s.packets request lengths (as_start ∙ p)))

  module _ (free : s.endpoint.work.busy ≡ false) where
    refused_is : (passes → ⊥) → (submitted w request lengths pauses).dock ≡ after s (submits request lengths)
    unfolding submitted
    refused_is p =
        let same : after s (starts request lengths) ≡ s =
        ap (λ (a : After ⊤ × List ℕ × List ℕ). state_of a.0.endpoint s.ring s.finished a.1 a.2)
        (start_refuses s.endpoint s.records s.packets request lengths p) in
        storing_dock (most_stores request (length lengths)) pauses (act w (calls (starts request lengths)))
        ∙ ap (stores_of (most_stores request (length lengths))) (started_dock w request lengths ∙ same)
        ∙ stays (most_stores request (length lengths)) s (rest_stays s free)
        ∙ sym
        (ap (λ (a : After Submitted × List ℕ × List ℕ × List ℕ × List ℕ). state_of a.0.endpoint a.1 a.2 a.3 a.4)
        (submit_refuses s.endpoint s.ring s.finished s.records s.packets request lengths (λ z. p (sym as_start ∙ z))))

    pub submitted_is : (submitted w request lengths pauses).dock ≡ after s (submits request lengths)
    submitted_is =
        ⊎_elim (λ (p : passes). admitted_is p) (λ (p : passes → ⊥). refused_is p)
        (same_or_not (start_no s.endpoint s.records (length s.packets) request lengths) 0)

    -- Nothing is under way after it.
    pub submitted_rests : (submitted w request lengths pauses).dock.endpoint.work.busy ≡ false
    submitted_rests =
        ap (λ (x : State). x.endpoint.work.busy) submitted_is
        ∙ ⊎_elim
        (λ (p : passes). ap (λ (x : Work). x.busy)
        (submit_done s.endpoint s.ring s.finished s.records s.packets request lengths p h.ring_long h.finished_long).1)
        (λ (p : passes → ⊥).
        ap (λ (a : After Submitted × List ℕ × List ℕ × List ℕ × List ℕ). a.0.endpoint.work.busy)
        (submit_refuses s.endpoint s.ring s.finished s.records s.packets request lengths (λ z. p (sym as_start ∙ z)))
        ∙ free)
        (same_or_not (start_no s.endpoint s.records (length s.packets) request lengths) 0)

-- ---- runs

stepping_run : (n : ℕ) (w : World) → Run w → Run (stepping n w)
unfolding stepping
stepping_run zero w r = r
stepping_run (suc n) w r = stepping_run n (stepped w) (run.and_then r steps refl)

storing_run : (n : ℕ) (pauses : ℕ → ℕ) (w : World) → Run w → Run (storing n pauses w)
unfolding storing
storing_run zero pauses w r = r
storing_run (suc n) pauses w r = storing_run n pauses (act (stepping (pauses n) w) (calls stores)) (run.and_then (stepping_run (pauses n) w r) (calls stores) refl)

submitted_run : (w : World) (request : Request) (lengths : List ℕ) (pauses : ℕ → ℕ) → typed request.what ≡ true
    → Run w → Run (submitted w request lengths pauses)
unfolding submitted
submitted_run w request lengths pauses fits r =
    storing_run (most_stores request (length lengths)) pauses (act w (calls (starts request lengths))) (run.and_then r (calls (starts request lengths)) fits)

pub whole_run : {w : World} → WholeRun w → Run w
whole_run (made ring finished records packets shape who done) = run.made ring finished records packets shape who done
whole_run (and_then r m other allowed) = run.and_then (whole_run r) m allowed
whole_run (and_submits {w} r request lengths pauses fits) = submitted_run w request lengths pauses fits (whole_run r)

-- A call between submissions begins none.
configure_rests : (s : State) (packet burst interval : ℕ) → (configure s.endpoint packet burst interval).endpoint.work ≡ s.endpoint.work
unfolding configure
configure_rests s packet burst interval =
    picked (λ (c : After ⊤). c.endpoint.work ≡ s.endpoint.work) (eqb (plain_no s.endpoint) 0) _ _ (λ t. refl) (λ t. refl)

reclaim_rests : (s : State) (id : ℕ) → (after s (reclaims id)).endpoint.work ≡ s.endpoint.work
unfolding leave
reclaim_rests s id =
    let t = reclaim s.endpoint s.finished s.records s.packets id in
    ⊎_elim
    (λ (u : Untouched s t). ap (λ (x : Endpoint). x.work) u.endpoint)
    (λ (u : Looked s id t).
    ⊎_elim
    (λ (n : t.0 ≡ nothing s.endpoint). ap (λ (x : After Reclaimed). x.endpoint.work) n)
    (λ (n : Left s.endpoint u.number (flight_part s.records s.endpoint.account.occupancy u.number) t.0). ap
    (λ (x : Endpoint). x.work) n.gone)
    u.touches.end)
    (reclaim_result s id)

call_rests : (s : State) (c : Call) → is_aside (part c) ≡ true → s.endpoint.work.busy ≡ false → (after s c).endpoint.work.busy ≡ false
call_rests s (configures packet burst interval) other free = ap (λ (x : Work). x.busy) (configure_rests s packet burst interval) ∙ free
call_rests s (starts request lengths) other free = absurd (false≢true other)
call_rests s stores other free = absurd (false≢true other)
call_rests s (submits request lengths) other free = absurd (false≢true other)
call_rests s (dock.hands event) other free = absurd (false≢true other)
call_rests s (reclaims id) other free = ap (λ (x : Work). x.busy) (reclaim_rests s id) ∙ free
call_rests s (cancels id) other free = free
call_rests s retires other free = absurd (false≢true other)
call_rests s begins other free = absurd (false≢true other)
call_rests s (ends worked) other free = absurd (false≢true other)
call_rests s stops other free = free
call_rests s resumes other free = free
call_rests s points other free = free

between_rests : (w : World) (m : Move) → between m ≡ true → w.dock.endpoint.work.busy ≡ false → (act w m).dock.endpoint.work.busy ≡ false
unfolding handed stepped
between_rests w (calls c) other free =
    ap (λ (s : State). s.endpoint.work.busy) (booked_dock w _ (admits w c) (part c)) ∙ call_rests w.dock c other free
between_rests w (hands event nth) other free = free
between_rests w steps other free = free

made_rests : (ring finished records packets : List ℕ) (shape : Shape) (who : Identity)
    → (made_of (make ring finished records packets shape who)).endpoint.work.busy ≡ false
unfolding make
made_rests ring finished records packets shape who =
    picked (λ (t : After ⊤ × List ℕ × List ℕ × List ℕ × List ℕ). (made_of t).endpoint.work.busy ≡ false)
    (eqb (make_no (length ring) (length finished) (length records) (length packets) shape who) 0) _ _ (λ t. refl) (λ t. refl)

dock_rests : {w : World} → WholeRun w → w.dock.endpoint.work.busy ≡ false
dock_rests (made ring finished records packets shape who done) = made_rests ring finished records packets shape who
dock_rests (and_then {w} r m other allowed) = between_rests w m other (dock_rests r)
dock_rests (and_submits {w} r request lengths pauses fits) = submitted_rests w (run_sound (whole_run r)) request lengths pauses (dock_rests r)

pub whole_rests : {w : World} → WholeRun w → under_way w ≡ false
whole_rests r = under_way_is (whole_run r) ∙ dock_rests r

-- ---- the corollary

pub whole_in_order : {w : World} → WholeRun w → Front w.consumed (admitted w)
whole_in_order r = in_order (whole_run r)

pub whole_drains : {w : World} → WholeRun w → (n : ℕ) → slots w - 1 ≤ n → (stepping n w).consumed ≡ admitted w
whole_drains r n enough = drains (whole_run r) (whole_rests r) n enough

-- Whatever the controller does meanwhile, a whole submission leaves the dock as its definition says.
pub whole_submits : {w : World} → WholeRun w → (request : Request) (lengths : List ℕ) (pauses : ℕ → ℕ)
    → (submitted w request lengths pauses).dock ≡ after w.dock (submits request lengths)
whole_submits {w} r request lengths pauses = submitted_is w (run_sound (whole_run r)) request lengths pauses (dock_rests r)

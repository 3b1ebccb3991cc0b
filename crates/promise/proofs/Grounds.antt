-- What the theorem rests on, each of every state that a run reaches:
--   `outstanding_sum_lem`: outstanding is the sum of the counts of the requests in flight.
--   `leaves_consumed`: a request leaves flight only when all its TRBs are consumed.
--   `not_overwritten`: no store overwrites a TRB that is not consumed, but the second store of a TD's first TRB, which stores the same TRB again.
--   `event_latest`: the event in a finished place is of the latest TRB stored there, and that one is consumed.
-- Assumes nothing.
use Rattle.std.specs.Prelude.{Some, ⊤, Result}
use Prim.Native.Nat.{ℕ, suc, ◌+◌, ◌-◌, ◌<◌, ◌≤◌}
use mathlib.Core.Bool.{Bool, true, false, false≢true}
use mathlib.Core.List.{List}
use mathlib.Core.Logic.{◌⊎◌, inl, inr, ⊎_elim}
use mathlib.Core.Path.{◌≡◌, refl, sym, ap, ◌∙◌, subst}
use native.Mathlib.Omega.{arith}
use lib.Dec.{eqb}
use lib.ListN.{length, take, length-append, length-take}
use Rattle.base.specs.First.{pick}
use Rattle.base.proofs.Compare.{same_or_not, lt_or_le, compared}
use Rattle.base.proofs.Decide.{if_so}
use Rattle.ids.specs.Lookup.{find_in}
use Rattle.ids.proofs.AnyLaws.{true_or_false}
use Rattle.mask.specs.Occupancy.{held}
use Rattle.mask.specs.Occupancy as masks
use Rattle.trb.specs.declared.Words.{Words}
use Rattle.finished.specs.Finished.{finished_at}
use Rattle.records.specs.Records.{record_at}
use Rattle.records.specs.declared.Record.{Record}
use Rattle.dock.specs.declared.Account.{Account}
use Rattle.dock.specs.declared.After.{After}
use Rattle.dock.specs.declared.Refusal.{Refusal}
use Rattle.dock.specs.declared.Reclaimed.{Reclaimed}
use Rattle.dock.specs.declared.Endpoint.{Endpoint}
use Rattle.dock.specs.declared.Request.{Request}
use Rattle.dock.specs.Cancel.{cancel, cancel_no}
use Rattle.dock.specs.Configure.{configure, plain_no}
use Rattle.dock.specs.RowOne.{flies, Next, the_link, the_trb, the_first, is_none}
use Rattle.dock.specs.RowOne as fit
use Rattle.dock.specs.Reclaim.{code_of, leave, nothing, reclaim}
use Rattle.dock.specs.Start.{record_taken, start_no, started_endpoint, started_records}
use Rattle.dock.specs.NextStore.{slot_stored, store_no}
use Rattle.dock.specs.Trbs.{trb_count}
use Rattle.dock.specs.Worth.{accepted}
use Rattle.dock.proofs.ReachedBookLaws.{by_flies, flies_alike, freed_other}
use Rattle.dock.proofs.ReachedFitLaws.{store_number}
use Rattle.dock.proofs.ReachedSoundLaws.{Untouched, Looked, reclaim_result, marked_alike}
use Rattle.dock.proofs.StoreNextLaws.{because, store_admitted}
use Rattle.dock.proofs.ReclaimOnceLaws.{outstanding_is_sum}
use Rattle.dock.proofs.Reached.{Sound, flight_part, flight_sum}
use Rattle.dock.specs.Run.{Call, configures, starts, stores, submits, reclaims, cancels, retires, begins, ends, stops, resumes, points, after}
use Rattle.dock.specs.Run as dock
use Rattle.dock.proofs.ReclaimLaws.{Left}
use Rattle.dock.proofs.RefusalLaws.{start_acts, start_refuses, store_refuses}
use Rattle.dock.proofs.RetireLaws.{picked}
use Rattle.dock.proofs.StartLaws.{record_free, record_taken_lem, records_kept}
use Rattle.dock.proofs.StoreStepLaws.{store_keeps}
use Rattle.dock.proofs.StoreLaws.{next_store, slot_changed}
use Rattle.order.specs.Flat.{flat}
use Rattle.order.proofs.Index.{pos, slot_lt, distinct}
use Rattle.order.proofs.Moves.{pending, waiting, length_layout}
use Rattle.order.proofs.Order.{Front}
use Rattle.promise.specs.Requested.{slot_of}
use Rattle.promise.specs.Run.{World, slots, admitted, under_way, stored_count, part, within, admits, handed, stepped, Move, calls, hands, steps, act, of_runs, Run}
use Rattle.promise.proofs.Agreed.{record_under_way, first_under_way, Agreed, slots_are, deferred_is, run_agreed}
use Rattle.promise.proofs.Awaited.{next_at}
use Rattle.promise.proofs.Handed.{all_stored}
use Rattle.promise.proofs.Kept.{model_in, Under, rests, opens, shows, hides, Kept}
use Rattle.promise.proofs.Laid.{bared, bared_length}
use Rattle.promise.proofs.Order.{deferred_unseen}
use Rattle.promise.proofs.Reach.{run_reached, under_way_is, run_sound, run_kept}
use Rattle.promise.proofs.Reclaimed.{place_at, left_heard}
use Rattle.promise.proofs.Upcoming.{left_count}

-- ---- outstanding

pub outstanding_sum_lem : {w : World} → Run w
    → w.dock.endpoint.account.outstanding ≡ flight_sum w.dock.records w.dock.endpoint.account.occupancy
outstanding_sum_lem r = outstanding_is_sum (run_reached r)

-- ---- how many TRBs are stored

module _ (w : World) (g : Agreed w) (k : Kept w) where
  abbrev e : Endpoint
  e = w.dock.endpoint

  slots_so : slots w ≡ suc k.K
  slots_so = slots_are w g ∙ k.shape

  some_place : 0 < k.K
  some_place = omega (arith, k.some_slot)

  -- What is still to be stored of a submission under way.
  to_come : Under k.K e w.dock.records w.dock.packets (first_under_way w) k.before k.work → e.work.busy ≡ true
      → (length (pending k.work) ≡ trb_count (record_under_way w) - e.work.stored) × (e.work.stored ≤ trb_count (record_under_way w))
  to_come (rests u) busy = absurd (false≢true (sym u.free ∙ busy))
  to_come (opens u) busy =
      (rw u.is (sym (ap length u.left_are) ∙ left_count k.K e w.dock.records w.dock.packets), omega (arith, u.none_stored))
  to_come (shows u) busy = (rw u.is (left_count k.K e w.dock.records w.dock.packets), u.counted)
  to_come (hides u) busy = (rw u.is (left_count k.K e w.dock.records w.dock.packets), u.counted)

  pub stored_is : under_way w ≡ e.work.busy → k.stored ≡ stored_count w
  unfolding stored_count
  stored_is u =
      ⊎_elim
      (λ (busy : e.work.busy ≡ true).
      let t = to_come k.under busy in
      rw (u ∙ busy) (omega (arith, t.0, t.1, k.split, (k.begun busy).last, (g.of_last busy).marked)))
      (λ (free : e.work.busy ≡ false). rw (u ∙ free) (all_stored w k free))
      (true_or_false e.work.busy)

  -- A TRB's slot, as the statement has it and as the model has it.
  slot_is : (n : ℕ) → slot_of (slots w) n ≡ (pos k.K n).place
  slot_is n = let same : slots w - 1 ≡ k.K = omega (arith, slots_so) in rw same (sym (place_at k.K some_place n))

  -- Fewer than L-1 TRBs wait.
  few_wait : length w.trbs < length w.consumed + k.K
  few_wait =
      let m = model_in k.K w k.before k.work in
      omega (
        arith,
        waiting some_place m k.inv,
        k.inv.covered,
        k.inv.room,
        length_layout (flat k.K) (pos k.K 0) (bared w.trbs),
        bared_length w.trbs,
      )

  -- Of two TRBs in one slot one is a round behind.
  round_behind : (i j : ℕ) → (pos k.K i).place ≡ (pos k.K j).place → i < j → i + k.K ≤ j
  round_behind i j same l =
      ⊎_elim
      (λ (near : j < i + k.K). absurd (distinct k.K some_place i j l near same))
      (λ (far : i + k.K ≤ j). far)
      (lt_or_le j (i + k.K))

-- ---- the event in a finished place

-- TRB number `nth` is the latest that is stored in its slot, and it is consumed.
pub record EventOf (w : World) (i : ℕ) (event : Words) : Type 0 where
  pub nth : ℕ
  pub there : slot_of (slots w) nth ≡ i
  pub stored : nth < stored_count w
  pub latest : (j : ℕ) → j < stored_count w → slot_of (slots w) j ≡ i → j ≤ nth
  pub consumed : nth < length w.consumed
  pub coded : accepted (code_of event) ≡ true

pub event_latest : {w : World} → Run w → (i : ℕ) (event : Words) → i < slots w - 1 → finished_at w.dock.finished i ≡ Some event
    → EventOf w i event
event_latest {w} r i event below said =
    let g = run_agreed r in
    let k = run_kept r in
    let l = k.places i event (omega (arith, slots_so w g k)) said in
    let count = stored_is w g k (under_way_is r) in
    record {
      nth = l.latest;
      there = slot_is w g k l.latest ∙ l.there;
      stored = omega (arith, l.was_stored);
      latest = λ j was at.
          ⊎_elim
          (λ (later : l.latest < j). absurd (omega (arith, round_behind w g k l.latest j (l.there ∙ sym at ∙ slot_is w g k j) later, l.not_again)))
          (λ (h : j ≤ l.latest). h)
          (lt_or_le l.latest j);
      consumed = omega (arith, l.was_heard, k.heard_consumed);
      coded = l.fine;
    }

-- ---- the slot that a store changes

module _ {w : World} (r : Run w) (busy : w.dock.endpoint.work.busy ≡ true) (j : ℕ) (was : j < stored_count w) where
  g : Agreed w
  g = run_agreed r

  k : Kept w
  k = run_kept r

  -- The link's slot is no TRB's.
  not_link : w.dock.endpoint.at.place + 1 ≡ w.dock.endpoint.shape.slots → slot_of (slots w) j ≡ w.dock.endpoint.at.place → ⊥
  not_link at-link same = omega (arith, slot_is w g k j, slot_lt k.K (some_place w g k) j, k.shape)

  -- A TRB goes to a slot whose last TRB is a round behind.
  behind_trb : (w.dock.endpoint.at.place + 1 ≡ w.dock.endpoint.shape.slots → ⊥) → slot_of (slots w) j ≡ w.dock.endpoint.at.place
      → j < length w.consumed
  behind_trb off same =
      let at = next_at w k (λ q. off (omega (arith, k.shape))) in
      let far = round_behind w g k j k.stored (sym (slot_is w g k j) ∙ same ∙ sym at) (omega (arith, stored_is w g k (under_way_is r))) in
      omega (arith, few_wait w g k, k.split)

  -- The first TRB is stored again in its own slot.
  behind_first : length w.consumed ≤ w.earlier → slot_of (slots w) j ≡ w.dock.endpoint.work.place
      → (j < length w.consumed) ⊎ (j ≡ w.earlier)
  behind_first unseen same =
      let b = k.begun busy in
      let first = w.earlier in
      let marked = (g.of_last busy).marked in
      let in_one : (pos k.K j).place ≡ (pos k.K first).place =
      sym (slot_is w g k j) ∙ same ∙ sym b.first_at_lem ∙ ap (λ (n : ℕ). (pos k.K n).place) marked in
      ⊎_elim
      (λ (q : j ≡ first). inr q)
      (⊎_elim
      (λ (h : j < first). inl (omega (arith, round_behind w g k j first in_one h, few_wait w g k, b.last, marked)))
      (λ (h : first < j). absurd (omega (arith, round_behind w g k first j (sym in_one) h, few_wait w g k, k.split, stored_is w g k (under_way_is r)))))
      (compared j first)

-- A front part of the first n of a list has n elements at most.
front_short : {A : Type 0} (a l : List A) (n : ℕ) → Front a (take n l) → length a ≤ n
front_short a l n f = omega (arith, length-append a f.rest, ap length f.whole, length-take n l)

module _ (w : World) where
  slot_of_link : next_store w.dock.endpoint w.dock.records ≡ the_link
      → slot_changed w.dock.endpoint w.dock.records ≡ w.dock.endpoint.at.place
  unfolding slot_stored
  slot_of_link q = ap (λ (n : Next). slot_stored n w.dock.endpoint) q

  slot_of_trb : next_store w.dock.endpoint w.dock.records ≡ the_trb
      → slot_changed w.dock.endpoint w.dock.records ≡ w.dock.endpoint.at.place
  unfolding slot_stored
  slot_of_trb q = ap (λ (n : Next). slot_stored n w.dock.endpoint) q

  slot_of_first : next_store w.dock.endpoint w.dock.records ≡ the_first
      → slot_changed w.dock.endpoint w.dock.records ≡ w.dock.endpoint.work.place
  unfolding slot_stored
  slot_of_first q = ap (λ (n : Next). slot_stored n w.dock.endpoint) q

module _ {w : World} (r : Run w) (under : under_way w ≡ true) (j : ℕ) (was : j < stored_count w)
    (same : slot_of (slots w) j ≡ slot_changed w.dock.endpoint w.dock.records) where
  abbrev now : Next
  now = next_store w.dock.endpoint w.dock.records

  busy : w.dock.endpoint.work.busy ≡ true
  busy = sym (under_way_is r) ∙ under

  some_store : is_none now ≡ false
  some_store =
      let d = w.dock in
      let row = store_number (run_reached r) ∙ ap (λ (b : Bool). pick b 0 10) busy in
      (store_admitted d.endpoint d.ring d.finished d.records d.packets row).course.more

  by_next : (n : Next) → now ≡ n → (j < length w.consumed) ⊎ ((now ≡ the_first) × (j ≡ w.earlier))
  by_next the_link q = absurd (not_link r busy j was (because w.dock.endpoint (record_under_way w) the_link q) (same ∙ slot_of_link w q))
  by_next the_trb q = inl (behind_trb r busy j was (because w.dock.endpoint (record_under_way w) the_trb q).0 (same ∙ slot_of_trb w q))
  by_next the_first q =
      let c = because w.dock.endpoint (record_under_way w) the_first q in
      let unseen = front_short w.consumed (admitted w) w.earlier (deferred_unseen r under (sym (deferred_is w (run_agreed r) busy) ∙ c.1)) in
      ⊎_elim
      (λ (l : j < length w.consumed). inl l)
      (λ (z : j ≡ w.earlier). inr (q, z))
      (behind_first r busy j was unseen (same ∙ slot_of_first w q))
  by_next fit.none q = absurd (false≢true (sym some_store ∙ ap is_none q))

  -- A TRB that is stored, in the slot that the next store changes: it is consumed, or it is the first of its TD, stored again.
  pub not_overwritten : (j < length w.consumed) ⊎ ((next_store w.dock.endpoint w.dock.records ≡ the_first) × (j ≡ w.earlier))
  not_overwritten = by_next now refl

-- ---- a request leaves flight

-- Whether a record is in flight.
abbrev pub in_flight : World → ℕ → Bool
in_flight w r = flies w.dock.records w.dock.endpoint.account.occupancy r

module _ (w : World) (r : ℕ) where
  configures_keeps : (packet burst interval : ℕ) → (configure w.dock.endpoint packet burst interval).endpoint.account ≡ w.dock.endpoint.account
  unfolding configure
  configures_keeps packet burst interval =
      picked (λ (c : After ⊤). c.endpoint.account ≡ w.dock.endpoint.account) (eqb (plain_no w.dock.endpoint) 0) _ _ (λ t. refl) (λ t. refl)

  configures_flies : (packet burst interval : ℕ) → in_flight w r ≡ true
      → flies w.dock.records (configure w.dock.endpoint packet burst interval).endpoint.account.occupancy r ≡ true
  configures_flies packet burst interval fly =
      ap (λ (a : Account). flies w.dock.records a.occupancy r) (configures_keeps packet burst interval) ∙ fly

  stores_keeps : (after w.dock stores).endpoint.account ≡ w.dock.endpoint.account
  stores_keeps =
      let d = w.dock in
      ⊎_elim
      (λ (p : store_no d.endpoint (length d.ring) (length d.finished) d.records (length d.packets) ≡ 0).
      (store_keeps d.endpoint d.ring d.finished d.records d.packets p).account)
      (λ (p : store_no d.endpoint (length d.ring) (length d.finished) d.records (length d.packets) ≡ 0 → ⊥).
      ap (λ s. s.0.endpoint.account) (store_refuses d.endpoint d.ring d.finished d.records d.packets p))
      (same_or_not (store_no d.endpoint (length d.ring) (length d.finished) d.records (length d.packets)) 0)

  cancels_keeps : (id : ℕ) → flies (after w.dock (cancels id)).records w.dock.endpoint.account.occupancy r ≡ in_flight w r
  unfolding cancel
  cancels_keeps id =
      let e = w.dock.endpoint in
      let records = w.dock.records in
      picked (λ (a : Result ⊤ Refusal × List ℕ). flies a.1 e.account.occupancy r ≡ in_flight w r) (eqb (cancel_no e records id) 0) _ _
      (λ t. flies_alike records _ e.account.occupancy r (marked_alike records (find_in records e.account.occupancy id)))
      (λ t. refl)

  -- A start takes a record that is free.
  starts_keeps : (request : Request) (lengths : List ℕ) → in_flight w r ≡ true
      → flies (after w.dock (starts request lengths)).records (after w.dock (starts request lengths)).endpoint.account.occupancy r ≡ true
  starts_keeps request lengths fly =
      let e = w.dock.endpoint in
      let records = w.dock.records in
      let packets = w.dock.packets in
      let b = (by_flies records e.account.occupancy r).so fly in
      ⊎_elim
      (λ (p : start_no e records (length packets) request lengths ≡ 0).
      let free = record_free e records packets request lengths p in
      let other : r ≡ record_taken e → ⊥ = λ q. false≢true (sym free ∙ sym (ap (held e.account.occupancy) q) ∙ b.0) in
      rw (start_acts e records packets request lengths p)
      (if_so (by_flies (started_records e records request lengths) (started_endpoint e records request lengths).account.occupancy r) (
        (record_taken_lem e records packets request lengths p).others r other ∙ b.0,
        ap (λ (x : Record). x.state)
            (records_kept e records packets request lengths p r other) ∙ b.1,
      )))
      (λ (p : start_no e records (length packets) request lengths ≡ 0 → ⊥). rw (start_refuses e records packets request lengths p) fly)
      (same_or_not (start_no e records (length packets) request lengths) 0)

  -- A reclaim frees the record that it looks at, once an event has passed its TRBs, and no other.
  reclaims_consumed : (h : Sound w.dock) (k : Kept w) (id : ℕ) → in_flight w r ≡ true
      → flies (after w.dock (reclaims id)).records (after w.dock (reclaims id)).endpoint.account.occupancy r ≡ false
      → w.first r + (record_at w.dock.records r).count ≤ length w.consumed
  unfolding leave
  reclaims_consumed h k id fly gone =
      let e = w.dock.endpoint in
      let records = w.dock.records in
      let occupancy = e.account.occupancy in
      let t = reclaim e w.dock.finished records w.dock.packets id in
      let b = (by_flies records occupancy r).so fly in
      ⊎_elim
      (λ (u : Untouched w.dock t).
      absurd (false≢true (sym gone ∙ ap (λ (x : Endpoint). flies t.1 x.account.occupancy r) u.endpoint
      ∙ ap (λ (x : List ℕ). flies x occupancy r) u.records ∙ fly)))
      (λ (u : Looked w.dock id t).
      let alike = u.touches.own_record.alike in
      ⊎_elim
      (λ (n : t.0 ≡ nothing e).
      absurd (false≢true (sym gone ∙ ap (λ (x : After Reclaimed). flies t.1 x.endpoint.account.occupancy r) n
      ∙ flies_alike records t.1 occupancy r alike ∙ fly)))
      (λ (n : Left e u.number (flight_part records occupancy u.number) t.0).
      ⊎_elim
      (λ (q : r ≡ u.number).
      let heard = left_heard w h k id u n.over (subst (λ (x : ℕ). in_flight w x ≡ true) q fly) in
      let here = subst (λ (x : ℕ). w.first x + (record_at records x).count ≤ w.heard) (sym q) heard in
      omega (arith, k.heard_consumed))
      (λ (d : r ≡ u.number → ⊥).
      absurd (false≢true
      (sym gone
      ∙ ap (λ (x : Endpoint). flies t.1 x.account.occupancy r) n.gone
      ∙ if_so (by_flies t.1 (masks.freed occupancy u.number) r)
      (freed_other e.account records u.number u.lowest.within r d ∙ b.0, alike.state r ∙ b.1))))
      (same_or_not r u.number))
      u.touches.end)
      (reclaim_result w.dock id)

call_consumed : {w : World} → Run w → (c : Call) → within (part c) ≡ true → (r : ℕ) → in_flight w r ≡ true → in_flight (act w (calls c)) r ≡ false
    → w.first r + (record_at w.dock.records r).count ≤ length w.consumed
call_consumed {w} run (configures packet burst interval) its r fly gone =
    absurd (false≢true (sym gone ∙ picked (λ (x : World). in_flight x r ≡ true) (admits w (configures packet burst interval)) _ _
    (λ t. configures_flies w r packet burst interval fly) (λ t. configures_flies w r packet burst interval fly)))
call_consumed {w} run (starts request lengths) its r fly gone =
    absurd (false≢true (sym gone ∙ picked (λ (x : World). in_flight x r ≡ true) (admits w (starts request lengths)) _ _
    (λ t. starts_keeps w r request lengths fly) (λ t. starts_keeps w r request lengths fly)))
call_consumed {w} run stores its r fly gone =
    absurd (false≢true (sym gone ∙ ap (λ (a : Account). flies w.dock.records a.occupancy r) (stores_keeps w r) ∙ fly))
call_consumed {w} run (submits request lengths) its r fly gone = absurd (false≢true its)
call_consumed {w} run (dock.hands event) its r fly gone = absurd (false≢true its)
call_consumed {w} run (reclaims id) its r fly gone = reclaims_consumed w r (run_sound run) (run_kept run) id fly gone
call_consumed {w} run (cancels id) its r fly gone = absurd (false≢true (sym gone ∙ cancels_keeps w r id ∙ fly))
call_consumed {w} run retires its r fly gone = absurd (false≢true its)
call_consumed {w} run begins its r fly gone = absurd (false≢true its)
call_consumed {w} run (ends worked) its r fly gone = absurd (false≢true its)
call_consumed {w} run stops its r fly gone = absurd (false≢true (sym gone ∙ fly))
call_consumed {w} run resumes its r fly gone = absurd (false≢true (sym gone ∙ fly))
call_consumed {w} run points its r fly gone = absurd (false≢true (sym gone ∙ fly))

-- Whatever the move of a run: a request that was in flight before it and is not after it has all its TRBs consumed.
pub leaves_consumed : {w : World} → Run w → (m : Move) → of_runs m ≡ true → (r : ℕ) → in_flight w r ≡ true → in_flight (act w m) r ≡ false
    → w.until r ≤ length w.consumed
unfolding handed stepped
leaves_consumed run (calls c) its r fly gone = omega (arith, call_consumed run c its r fly gone, (run_agreed run).ranges r fly)
leaves_consumed run (hands event nth) its r fly gone = absurd (false≢true (sym gone ∙ fly))
leaves_consumed run steps its r fly gone = absurd (false≢true (sym gone ∙ fly))

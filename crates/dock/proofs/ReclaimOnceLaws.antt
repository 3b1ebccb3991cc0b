-- In every state that is reached from making: outstanding is the TRBs in flight, a retire leaves nothing in flight, a request is reclaimed once,
-- and a reclaim touches no other request. Assumes nothing.
use Rattle.std.specs.Prelude.{Option, Some, None, Err, ⊤}
use Prim.Native.Nat.{ℕ, ◌+◌, ◌-◌, ◌<◌, ◌≤◌}
use mathlib.Core.Bool.{Bool, true, false, ◌&&◌}
use mathlib.Core.List.{List}
use mathlib.Core.Logic.{⊎_elim}
use mathlib.Core.Path.{◌≡◌, refl, sym, ap, ◌∙◌, subst}
use native.Mathlib.Omega.{arith}
use borrow.Author.Tests.{eqb-true, eq-eqb, not-false}
use lib.Dec.{eqb}
use lib.ListN.{length}
use Rattle.base.proofs.Chosen.{quiet}
use Rattle.base.proofs.Compare.{same_or_not}
use Rattle.base.proofs.Decide.{both, if_so, if_not, by_eqb}
use Rattle.mask.specs.Occupancy.{held}
use Rattle.mask.specs.Occupancy as masks
use Rattle.sizes.specs.Sizes.{ring_size, record_count, record_words, records_size, packet_count, packets_size}
use Rattle.ids.specs.Free.{id_at, held_by}
use Rattle.ids.specs.Lookup.{find_in}
use Rattle.ids.proofs.AnyLaws.{never_both, by_held}
use Rattle.ids.proofs.LookupLaws.{find_computed, find_new}
use Rattle.packets.specs.Packets.{packet_at}
use Rattle.records.specs.States.{state_is, in_flight, stopped}
use Rattle.records.specs.Records.{word_at, record_at}
use Rattle.records.proofs.StateLaws.{eq_state, ne_state, flying_not_stopped}
use Rattle.dock.specs.declared.After.{After}
use Rattle.dock.specs.declared.Reclaimed.{Reclaimed}
use Rattle.dock.specs.Refusals.{refusal, done}
use Rattle.dock.specs.declared.Endpoint.{Endpoint}
use Rattle.dock.specs.RowOne.{place_fits, fits, strays, fits_with}
use Rattle.dock.specs.State.{with_account}
use Rattle.dock.specs.Start.{id_taken}
use Rattle.dock.specs.Reclaim.{final, reclaim_stopped, leave, nothing, bad_record, reclaim_tests, reclaim_no, reclaim_found, reclaim}
use Rattle.dock.specs.Cancel.{cancel_tests, cancel_no, cancel}
use Rattle.dock.specs.Retire.{record_tests, record_no, retired_below, retire}
use Rattle.dock.specs.Run.{State, reclaims, retires, after, Reached, next}
use Rattle.dock.proofs.Reached.{flight_part, flight_sum, Sound}
use Rattle.dock.proofs.ReachedBookLaws.{Alike, freed_here, freed_other, freed_exact}
use Rattle.dock.proofs.RetireLaws.{picked, retired_account, retired_none, retired_stopped, retiring}
use Rattle.dock.proofs.ReclaimLaws.{Left}
use Rattle.dock.proofs.ReachedFitLaws.{reached_fits}
use Rattle.dock.proofs.ReachedSoundLaws.{fits_with_parts, Untouched, Looked, reclaim_result, reclaim_idle, reached_sound}

-- Outstanding is the sum of the counts of the requests in flight.
pub outstanding_is_sum : {s : State} → Reached s → s.endpoint.account.outstanding ≡ flight_sum s.records s.endpoint.account.occupancy
outstanding_is_sum r = (reached_sound r).books.outstanding_sum

-- "never below 0": what a record adds is part of outstanding, so that the difference is exact.
pub freeing_exact : {s : State} → Reached s → (r : ℕ) → r < record_count
    → flight_part s.records s.endpoint.account.occupancy r ≤ s.endpoint.account.outstanding
freeing_exact {s} h r l = freed_exact s.endpoint.account s.records r l (reached_sound h).books

-- Two held records never have one id.
pub ids_distinct : {s : State} → Reached s → (r q : ℕ) → r < record_count → q < record_count
    → held s.endpoint.account.occupancy r ≡ true → held s.endpoint.account.occupancy q ≡ true → id_at s.records r ≡ id_at s.records q → r ≡ q
ids_distinct h = (reached_sound h).books.distinct

-- The id that a start takes is one that no held record has, in flight or stopped.
pub taken_id_new : {s : State} → Reached s → find_in s.records s.endpoint.account.occupancy (id_taken s.endpoint s.records) ≡ None
unfolding id_taken
taken_id_new {s} h =
    let b = (reached_sound h).books in
    find_new record_count (held s.endpoint.account.occupancy) (id_at s.records) s.endpoint.account.next (omega arith) b.next_above b.next_below

-- ---- calls in a state with nothing under way

-- The endpoint takes calls: its numbers fit, and no submission is under way.
pub record Ready (e : Endpoint) : Type 0 where
  pub fitting : fits e ≡ true
  pub idle : e.work.busy ≡ false

no_stray : (e : Endpoint) (records : List ℕ) → e.work.busy ≡ false → strays e records ≡ false
unfolding strays
no_stray e records idle = rw idle

ready_with : (e : Endpoint) (records : List ℕ) → Ready e → length records ≡ records_size → fits_with e records ≡ true
ready_with e records r long = if_so (fits_with_parts e records) ((r.fitting, long), no_stray e records r.idle)

module _ (s : State) (h : Sound s) (ready : Ready s.endpoint) (id : ℕ) where
  reclaim_taken : bad_record s.endpoint s.records (find_in s.records s.endpoint.account.occupancy id) ≡ false
      → reclaim_no s.endpoint (length s.finished) s.records (length s.packets) id ≡ 0
  unfolding reclaim_no reclaim_tests
  reclaim_taken bad =
      let e = s.endpoint in
      let row : (fits_with e s.records && eqb (length s.finished) (ring_size e.shape.slots) && eqb (length s.packets) packets_size) ≡ true =
      if_so (both (both (fits_with_parts e s.records) (by_eqb (length s.finished) (ring_size e.shape.slots))) (by_eqb (length s.packets) packets_size))
      (((fits_with_parts e s.records).so (ready_with e s.records ready h.records_long), h.finished_long), h.packets_long) in
      rw (row, bad, ready.idle)

  -- The call that is not refused looks the id up.
  reclaim_looks : (f : Option ℕ) → f ≡ find_in s.records s.endpoint.account.occupancy id → bad_record s.endpoint s.records f ≡ false
      → reclaim s.endpoint s.finished s.records s.packets id ≡ reclaim_found f s.endpoint s.finished s.records s.packets
  unfolding reclaim
  reclaim_looks f found bad =
      let taken = reclaim_taken (subst (λ (x : Option ℕ). bad_record s.endpoint s.records x ≡ false) found bad) in
      rw (taken, ← found)

  -- Row 10: an id that no record holds is answered `Nothing`, and nothing changes.
  pub not_held_nothing : find_in s.records s.endpoint.account.occupancy id ≡ None
      → reclaim s.endpoint s.finished s.records s.packets id ≡ (nothing s.endpoint, s.records, s.packets)
  not_held_nothing none = reclaim_looks None (sym none) refl

  -- Row 7: a stopped id is answered `Cancelled`, and its record freed.
  module _ (r : ℕ) (found : find_in s.records s.endpoint.account.occupancy id ≡ Some r) (stops : (record_at s.records r).state ≡ stopped) where
    not_flying_lem : state_is (record_at s.records r).state in_flight ≡ false
    not_flying_lem = ne_state (record_at s.records r).state in_flight (λ (e : (record_at s.records r).state ≡ in_flight). flying_not_stopped _ e stops)

    not_bad : bad_record s.endpoint s.records (Some r) ≡ false
    not_bad = rw not_flying_lem

    pub stopped_cancelled : reclaim s.endpoint s.finished s.records s.packets id
        ≡ (reclaim_stopped s.endpoint (record_at s.records r) r, s.records, s.packets)
    stopped_cancelled =
        let is : state_is (record_at s.records r).state stopped ≡ true = eq_state _ _ stops in
        reclaim_looks (Some r) (sym found) not_bad ∙ rw is

    -- Row 6: it cannot be cancelled.
    stopped_row : cancel_no s.endpoint s.records id ≡ 6
    unfolding cancel_no cancel_tests
    stopped_row = rw (ready_with s.endpoint s.records ready h.records_long, ready.idle, found, not_flying_lem)

    pub stopped_not_cancellable : cancel s.endpoint s.records id ≡ (Err (refusal 6), s.records)
    unfolding cancel
    stopped_not_cancellable = rw stopped_row

-- ---- a request is reclaimed once

leave_fits : (e : Endpoint) (r count : ℕ) (halts : Bool) → fits (leave e r count halts) ≡ fits e
unfolding fits place_fits leave
leave_fits e r count halts = refl

leave_ready : (e : Endpoint) (r count : ℕ) (halts : Bool) → Ready e → Ready (leave e r count halts)
unfolding leave
leave_ready e r count halts ready = record { fitting = leave_fits e r count halts ∙ ready.fitting; idle = ready.idle }

-- The endpoint of a reclaim that is not refused takes calls.
reclaim_ready : (e : Endpoint) (finished : ℕ) (records : List ℕ) (packets id : ℕ) → reclaim_no e finished records packets id ≡ 0 → Ready e
unfolding reclaim_no reclaim_tests
reclaim_ready e finished records packets id t =
    let row = not-false _ (quiet (reclaim_tests e finished records packets id) 0 refl t (omega arith)) in
    let all = (both (both (fits_with_parts e records) (by_eqb finished (ring_size e.shape.slots))) (by_eqb packets packets_size)).so row in
    record { fitting = all.0.0.0.0; idle = reclaim_idle e finished records packets id t }

module _ (s : State) (h : Sound s) (id : ℕ) where
  abbrev result : After Reclaimed × List ℕ × List ℕ
  result = reclaim s.endpoint s.finished s.records s.packets id

  -- What has happened where the answer says that the request is over.
  pub record Gone : Type 0 where
    pub number : ℕ
    pub within : number < record_count
    pub held : masks.held s.endpoint.account.occupancy number ≡ true
    pub named : id_at s.records number ≡ id
    pub ready : Ready s.endpoint
    pub halts : Bool
    pub left : result.0.endpoint ≡ leave s.endpoint number (flight_part s.records s.endpoint.account.occupancy number) halts
    pub alike : Alike s.records result.1

  pub over_gone : final result.0.answer ≡ true → Gone
  over_gone over =
      ⊎_elim
      (λ (u : Untouched s result). absurd (never_both over u.unended))
      (λ (u : Looked s id result).
      let is = (by_held (held s.endpoint.account.occupancy) (id_at s.records) id u.number).so u.lowest.here in
      ⊎_elim
      (λ (n : result.0 ≡ nothing s.endpoint). absurd (never_both over (ap (λ (x : After Reclaimed). final x.answer) n)))
      (λ (n : Left s.endpoint u.number (flight_part s.records s.endpoint.account.occupancy u.number) result.0).
      record {
        number = u.number;
        within = u.lowest.within;
        held = is.0;
        named = is.1;
        ready = reclaim_ready s.endpoint (length s.finished) s.records (length s.packets) id u.allowed;
        halts = n.halts;
        left = n.gone;
        alike = u.touches.own_record.alike;
      })
      u.touches.end)
      (reclaim_result s id)

  -- No record has the id then,
  nobody : (g : Gone) (k : ℕ) → k < record_count
      → held_by (masks.held (leave s.endpoint g.number (flight_part s.records s.endpoint.account.occupancy g.number) g.halts).account.occupancy) (id_at result.1) id k ≡ false
  unfolding leave
  nobody g k l =
      let a = s.endpoint.account in
      let r = g.number in
      if_not (by_held (masks.held (masks.freed a.occupancy r)) (id_at result.1) id k)
      (λ f. ⊎_elim
      (λ (e : k ≡ r). never_both (sym (ap (masks.held (masks.freed a.occupancy r)) e) ∙ f.0) (freed_here a s.records r g.within))
      (λ (d : k ≡ r → ⊥).
      d (h.books.distinct k r l g.within (sym (freed_other a s.records r g.within k d) ∙ f.0) g.held (sym (g.alike.id k) ∙ f.1 ∙ sym g.named)))
      (same_or_not k r))

  pub then_not_held : final result.0.answer ≡ true → find_in result.1 result.0.endpoint.account.occupancy id ≡ None
  then_not_held over =
      let g = over_gone over in
      rw g.left (sym (find_computed record_count _ (id_at result.1) id None (nobody g)))

  -- and the endpoint takes calls as before.
  pub then_ready : final result.0.answer ≡ true → Ready result.0.endpoint
  then_ready over =
      let g = over_gone over in
      rw g.left
      (leave_ready s.endpoint g.number (flight_part s.records s.endpoint.account.occupancy g.number) g.halts g.ready)

-- A request that has been answered Done, Cancelled, Failed or Mismatch is answered `Nothing` (10) when it is reclaimed again, and nothing changes.
pub reclaimed_once : {s : State} → Reached s → (id : ℕ) → final (reclaim s.endpoint s.finished s.records s.packets id).0.answer ≡ true
    → let t = after s (reclaims id) in reclaim t.endpoint t.finished t.records t.packets id ≡ (nothing t.endpoint, t.records, t.packets)
reclaimed_once {s} h id over =
    not_held_nothing (after s (reclaims id)) (reached_sound (next h (reclaims id))) (then_ready s (reached_sound h) id over) id (then_not_held s (reached_sound h) id over)

-- ---- a reclaim touches no other request

-- The record that has the id, if one has it.
abbrev pub Has : State → ℕ → ℕ → Type 0
Has s id r = (held s.endpoint.account.occupancy r ≡ true) × (id_at s.records r ≡ id)

holder : (s : State) (id : ℕ) (t : After Reclaimed × List ℕ × List ℕ) (u : Looked s id t) (q : ℕ) → q ≡ u.number → Has s id q
holder s id t u q e =
    let is = (by_held (held s.endpoint.account.occupancy) (id_at s.records) id u.number).so u.lowest.here in
    (ap (held s.endpoint.account.occupancy) e ∙ is.0, ap (id_at s.records) e ∙ is.1)

-- It is the one that is found.
pub held_found : (s : State) → Sound s → (id r : ℕ) → r < record_count → Has s id r → find_in s.records s.endpoint.account.occupancy id ≡ Some r
held_found s h id r l has =
    let f = held s.endpoint.account.occupancy in
    sym (find_computed record_count f (id_at s.records) id (Some r)
    (record {
      within = l;
      here = if_so (by_held f (id_at s.records) id r) has;
      lower = λ k m. if_not (by_held f (id_at s.records) id k)
          (λ g. let same : k ≡ r = h.books.distinct k r (omega arith) l g.0 has.0 (g.1 ∙ sym has.1) in omega arith);
    }))

-- The words of every record that has not the id are as they were,
pub reclaim_other_record : {s : State} → Reached s → (id q k : ℕ) → q < record_count → k < record_words → (Has s id q → ⊥)
    → word_at (after s (reclaims id)).records q k ≡ word_at s.records q k
reclaim_other_record {s} h id q k l m other =
    let t = reclaim s.endpoint s.finished s.records s.packets id in
    ⊎_elim
    (λ (u : Untouched s t). ap (λ (x : List ℕ). word_at x q k) u.records)
    (λ (u : Looked s id t). u.touches.own_record.others q k (λ e. other (holder s id t u q e)) m)
    (reclaim_result s id)

-- and so are its packets.
pub reclaim_other_packets : {s : State} → Reached s → (id q k : ℕ) → q < record_count → k < packet_count → (Has s id q → ⊥)
    → packet_at (after s (reclaims id)).packets q k ≡ packet_at s.packets q k
reclaim_other_packets {s} h id q k l m other =
    let t = reclaim s.endpoint s.finished s.records s.packets id in
    ⊎_elim
    (λ (u : Untouched s t). ap (λ (x : List ℕ). packet_at x q k) u.packets)
    (λ (u : Looked s id t). u.touches.own_packets.others q k (λ e. other (holder s id t u q e)) m)
    (reclaim_result s id)

-- The count of a request that is over is taken off outstanding, exactly: the difference does not stop at 0.
pub reclaimed_takes : {s : State} → Reached s → (id r : ℕ) → r < record_count → Has s id r
    → final (reclaim s.endpoint s.finished s.records s.packets id).0.answer ≡ true
    → (after s (reclaims id)).endpoint.account.outstanding + flight_part s.records s.endpoint.account.occupancy r ≡ s.endpoint.account.outstanding
unfolding leave
reclaimed_takes {s} h id r l has over =
    let a = s.endpoint.account in
    let g = over_gone s (reached_sound h) id over in
    let same : g.number ≡ r = ids_distinct h g.number r g.within l g.held has.0 (g.named ∙ sym has.1) in
    let part = freeing_exact h r l in
    let left : (after s (reclaims id)).endpoint.account.outstanding ≡ a.outstanding - flight_part s.records a.occupancy g.number =
    ap (λ (e : Endpoint). e.account.outstanding) g.left in
    omega (arith, ap (flight_part s.records a.occupancy) same)

-- ---- ids that no record has, and stopped ones

-- In a state that is reached, with nothing under way, the endpoint takes calls.
pub reached_ready : {s : State} → Reached s → s.endpoint.work.busy ≡ false → Ready s.endpoint
reached_ready r idle = record { fitting = reached_fits r; idle = idle }

-- An id that no record has is answered `Nothing` (10), and nothing changes.
pub unknown_nothing : {s : State} → Reached s → s.endpoint.work.busy ≡ false → (id : ℕ) → ((r : ℕ) → r < record_count → Has s id r → ⊥)
    → reclaim s.endpoint s.finished s.records s.packets id ≡ (nothing s.endpoint, s.records, s.packets)
unknown_nothing {s} h idle id unknown =
    let f = held s.endpoint.account.occupancy in
    not_held_nothing s (reached_sound h) (reached_ready h idle) id
    (sym (find_computed record_count f (id_at s.records) id None (λ k l. if_not (by_held f (id_at s.records) id k) (unknown k l))))

module _ {s : State} (h : Reached s) (idle : s.endpoint.work.busy ≡ false) (id r : ℕ) (l : r < record_count) (has : Has s id r)
    (stops : (record_at s.records r).state ≡ stopped) where
  -- A stopped id is reclaimed as `Cancelled` (7), and its record freed,
  pub stopped_reclaimed : reclaim s.endpoint s.finished s.records s.packets id
      ≡ (reclaim_stopped s.endpoint (record_at s.records r) r, s.records, s.packets)
  stopped_reclaimed = stopped_cancelled s (reached_sound h) (reached_ready h idle) id r (held_found s (reached_sound h) id r l has) stops

  -- once,
  pub stopped_once : let t = after s (reclaims id) in reclaim t.endpoint t.finished t.records t.packets id ≡ (nothing t.endpoint, t.records, t.packets)
  stopped_once = reclaimed_once h id (ap (λ (x : After Reclaimed × List ℕ × List ℕ). final x.0.answer) stopped_reclaimed)

  -- and cannot be cancelled (6).
  pub stopped_refuses_cancel : cancel s.endpoint s.records id ≡ (Err (refusal 6), s.records)
  stopped_refuses_cancel = stopped_not_cancellable s (reached_sound h) (reached_ready h idle) id r (held_found s (reached_sound h) id r l has) stops

-- ---- after a retire

module _ (s : State) (h : Sound s) where
  -- A retire that is done has passed its tests.
  retire_passed : (retire s.endpoint s.records).0.answer ≡ done → record_no s.endpoint s.records ≡ 0
  unfolding retire
  retire_passed =
      picked (λ (a : After ⊤ × List ℕ). a.0.answer ≡ done → record_no s.endpoint s.records ≡ 0) (eqb (record_no s.endpoint s.records) 0) _ _
      (λ t d. eqb-true _ _ t)
      (λ t d. absurd (let z : ◌≡◌ {A = ℕ} 0 1 = cc in omega arith))

  retire_idle : record_no s.endpoint s.records ≡ 0 → s.endpoint.work.busy ≡ false
  unfolding record_no record_tests
  retire_idle t = quiet (record_tests s.endpoint s.records) 1 refl t (omega arith)

  abbrev below : ℕ × List ℕ
  below = retired_below record_count s.endpoint.account.occupancy s.endpoint.account.outstanding s.records

  retire_is : record_no s.endpoint s.records ≡ 0
      → retire s.endpoint s.records
      ≡ (record { answer = done; endpoint = with_account s.endpoint (retired_account s.endpoint.account below.0) }, below.1)
  unfolding retire
  retire_is t = rw (eq-eqb _ _ t)

  retired_idle : record_no s.endpoint s.records ≡ 0 → (after s retires).endpoint.work.busy ≡ false
  retired_idle t = rw (retire_is t) (retire_idle t)

  retired_has : record_no s.endpoint s.records ≡ 0 → (r : ℕ) → held s.endpoint.account.occupancy r ≡ true → Has (after s retires) (id_at s.records r) r
  retired_has t r mine =
      let all = retiring s.endpoint.account.occupancy s.endpoint.account.outstanding s.records h.records_long record_count (omega arith) in
      rw (retire_is t) (mine, all.id r)

-- A retire that is done leaves outstanding 0,
pub retire_empties : {s : State} → Reached s → (retire s.endpoint s.records).0.answer ≡ done → (after s retires).endpoint.account.outstanding ≡ 0
retire_empties {s} h done =
    let sound = reached_sound h in
    let t = retire_passed s sound done in
    rw (retire_is s sound t) (retired_none s.endpoint.account s.records sound.records_long sound.books)

-- the records held that were,
pub retire_holds : {s : State} → Reached s → (retire s.endpoint s.records).0.answer ≡ done
    → (after s retires).endpoint.account.occupancy ≡ s.endpoint.account.occupancy
retire_holds {s} h done =
    let sound = reached_sound h in
    rw (retire_is s sound (retire_passed s sound done))

-- and each of them stopped.
pub retire_stops : {s : State} → Reached s → (retire s.endpoint s.records).0.answer ≡ done
    → (r : ℕ) → r < record_count → held s.endpoint.account.occupancy r ≡ true → (record_at (after s retires).records r).state ≡ stopped
retire_stops {s} h done r l mine =
    let sound = reached_sound h in
    let t = retire_passed s sound done in
    rw (retire_is s sound t) (retired_stopped s.endpoint.account s.records sound.records_long sound.books r l mine)

-- So the id of a record that was held is reclaimed as `Cancelled` (7), once, and cannot be cancelled (6).
module _ {s : State} (h : Reached s) (done : (retire s.endpoint s.records).0.answer ≡ done) (r : ℕ) (l : r < record_count)
    (mine : held s.endpoint.account.occupancy r ≡ true) where
  abbrev t : State
  t = after s retires

  abbrev its : ℕ
  its = id_at s.records r

  passed : record_no s.endpoint s.records ≡ 0
  passed = retire_passed s (reached_sound h) done

  idle_then : t.endpoint.work.busy ≡ false
  idle_then = retired_idle s (reached_sound h) passed

  has_then : Has t its r
  has_then = retired_has s (reached_sound h) passed r mine

  pub retired_cancelled : (reclaim t.endpoint t.finished t.records t.packets its).0 ≡ reclaim_stopped t.endpoint (record_at t.records r) r
  retired_cancelled =
      ap (λ (x : After Reclaimed × List ℕ × List ℕ). x.0) (stopped_reclaimed (next h retires) idle_then its r l has_then (retire_stops h done r l mine))

  pub retired_once : let u = after t (reclaims its) in reclaim u.endpoint u.finished u.records u.packets its ≡ (nothing u.endpoint, u.records, u.packets)
  retired_once = stopped_once (next h retires) idle_then its r l has_then (retire_stops h done r l mine)

  pub retired_not_cancellable : cancel t.endpoint t.records its ≡ (Err (refusal 6), t.records)
  retired_not_cancellable = stopped_refuses_cancel (next h retires) idle_then its r l has_then (retire_stops h done r l mine)

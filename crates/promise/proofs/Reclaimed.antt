-- A reclaim keeps the invariant. A request leaves flight only when an event stands in the place of its last TRB; that event is of the latest TRB stored
-- there, which is this one or a later one; so an event has passed all of the request's TRBs, and they are consumed (`left_heard`). What stays outstanding
-- then still covers what is not consumed, which is what the model asks for. Assumes nothing.
use Rattle.std.specs.Prelude.{Option}
use Prim.Native.Nat.{ℕ, suc, ◌+◌, ◌-◌, ◌%◌, ◌<◌, ◌≤◌}
use mathlib.Core.Bool.{Bool, true, false, false≢true}
use mathlib.Core.List.{List}
use mathlib.Core.Logic.{⊎_elim}
use mathlib.Core.Path.{◌≡◌, refl, sym, ap, ◌∙◌}
use native.Mathlib.Nat.{mod-add-mod}
use native.Mathlib.Omega.{arith}
use borrow.Author.Tests.{eq-eqb, ne_eqb}
use lib.Dec.{eqb}
use lib.ListN.{length}
use Rattle.base.proofs.Compare.{lt_or_le}
use Rattle.sizes.specs.Sizes.{record_count}
use Rattle.ids.specs.Free.{id_at}
use Rattle.ids.specs.Lookup.{find_in}
use Rattle.ids.proofs.AnyLaws.{by_held}
use Rattle.mask.specs.Occupancy.{held}
use Rattle.mask.specs.Occupancy as masks
use Rattle.trb.specs.declared.Words.{Words}
use Rattle.records.specs.States.{state_is, in_flight, stopped}
use Rattle.records.specs.Records.{record_at}
use Rattle.records.proofs.StateLaws.{eq_state, ne_state, flying_not_stopped}
use Rattle.records.specs.declared.Record.{Record}
use Rattle.dock.specs.declared.Endpoint.{Endpoint}
use Rattle.dock.specs.declared.After.{After}
use Rattle.dock.specs.declared.Reclaimed.{Reclaimed}
use Rattle.dock.specs.RowOne.{flies}
use Rattle.dock.specs.Reclaim.{final, leave, nothing, place_of, reclaim_flying, reclaim_found, reclaim}
use Rattle.dock.proofs.ReachedBookLaws.{by_flies, freed_sum}
use Rattle.dock.proofs.ReachedSoundLaws.{Untouched, Looked, reclaim_result, reclaim_idle}
use Rattle.dock.proofs.ReclaimLeaveLaws.{reclaim_records}
use Rattle.dock.proofs.ReclaimOnceLaws.{held_found}
use Rattle.dock.proofs.Reached.{Sound, flight_part}
use Rattle.dock.specs.Run.{state_of, reclaims}
use Rattle.dock.proofs.ReclaimLaws.{Left}
use Rattle.dock.proofs.RefusalLaws.{reclaim_acts}
use Rattle.order.specs.Flat.{flat}
use Rattle.order.specs.Model as model
use Rattle.order.proofs.Index.{pos, pos_is, slot_lt, distinct}
use Rattle.order.proofs.Moves.{free_keeps, length_layout}
use Rattle.order.proofs.Numbers.{free_numbered}
use Rattle.promise.specs.Run.{World, with_dock, calls, act}
use Rattle.promise.proofs.Awaited.{in_flight_lem}
use Rattle.promise.proofs.Flying.{Same, same_after, flights_same, flights_freed, idle_changes}
use Rattle.promise.proofs.Handed.{idle_kept, all_stored}
use Rattle.promise.proofs.Kept.{model_in, Kept, rests, Latest, Holds}
use Rattle.promise.proofs.Laid.{bared, bared_length}
use Rattle.promise.proofs.Seen.{Over, flying_out}

-- ---- the last TRB of a request that is over

pub place_at : (K : ℕ) → 0 < K → (n : ℕ) → (pos K n).place ≡ n % K
place_at K some n = ap (λ (p : model.Position). p.place) (pos_is K some n)

module _ (K : ℕ) (some_place : 0 < K) (slots : ℕ) (shape : slots ≡ suc K) where
  -- The k-th place behind that of a TRB is that of the k-th TRB behind it.
  place_behind : (n k : ℕ) → place_of slots (pos K n).place k ≡ (pos K (n + k)).place
  unfolding place_of
  place_behind n k =
      let same : slots - 1 ≡ K = omega arith in
      rw same
      (ap (λ (x : ℕ). (x + k) % K) (place_at K some_place n) ∙ mod-add-mod n K k ∙ sym (place_at K some_place (n + k)))

  -- An event in the place of TRB number n: it is of that TRB or of a later one, so an event has passed TRB number n.
  pub passed_by : (finished : List ℕ) (stored heard n : ℕ) → n < stored → (event : Words) → Latest K stored heard (pos K n).place event → n < heard
  passed_by finished stored heard n was event l =
      ⊎_elim
      (λ (h : l.latest < n). absurd (distinct K some_place l.latest n h (omega (arith, l.not_again)) l.there))
      (λ (h : n ≤ l.latest). omega (arith, l.was_heard))
      (lt_or_le l.latest n)

module _ (w : World) (h : Sound w.dock) (k : Kept w) (id : ℕ) where
  abbrev e : Endpoint
  e = w.dock.endpoint

  abbrev result : After Reclaimed × List ℕ × List ℕ
  result = reclaim e w.dock.finished w.dock.records w.dock.packets id

  some_place : 0 < k.K
  some_place = omega (arith, k.some_slot)

  -- A request in flight that is over: an event has passed the last of its TRBs.
  over_heard : e.work.busy ≡ false → (n : ℕ) (v : Record) → Holds k.K (length w.trbs) n v → Over e.shape.slots w.dock.finished v
      → n + v.count ≤ w.heard
  over_heard free n v holds o =
      let last : ℕ = n + (v.count - 1) in
      let at : place_of e.shape.slots v.place (v.count - 1) ≡ (pos k.K last).place =
      ap (λ (x : ℕ). place_of e.shape.slots x (v.count - 1)) (sym holds.begins) ∙ place_behind
      k.K some_place e.shape.slots k.shape n (v.count - 1) in
      let said = rw at at o.there in
      let latest = k.places (pos k.K last).place o.event (slot_lt k.K some_place last) said in
      let was : last < k.stored = omega (arith, all_stored w k free, holds.ends, holds.counts.some) in
      omega (
        arith,
        holds.counts.some,
        passed_by k.K some_place e.shape.slots k.shape w.dock.finished k.stored w.heard last was o.event latest,
      )

  -- The record that is looked at, if it is in flight and its request is over.
  pub left_heard : (u : Looked w.dock id result) → final result.0.answer ≡ true
      → flies w.dock.records e.account.occupancy u.number ≡ true
      → w.first u.number + (record_at w.dock.records u.number).count ≤ w.heard
  left_heard u over fly =
      let records = w.dock.records in
      let r = u.number in
      let v = record_at records r in
      let within = u.lowest.within in
      let free = reclaim_idle e (length w.dock.finished) records (length w.dock.packets) id u.allowed in
      let has = (by_held (held e.account.occupancy) (id_at records) id r).so u.lowest.here in
      let found = held_found w.dock h id r within (has.0, has.1) in
      let flying : v.state ≡ in_flight = ((by_flies records e.account.occupancy r).so fly).1 in
      let going : state_is v.state in_flight ≡ true = eq_state v.state in_flight flying in
      let going_on : state_is v.state stopped ≡ false = ne_state v.state stopped (λ (q : v.state ≡ stopped). flying_not_stopped v.state flying q) in
      let is : result ≡ reclaim_flying e w.dock.finished records w.dock.packets v r =
      reclaim_acts e w.dock.finished records w.dock.packets id u.allowed
      ∙ ap (λ (f : Option ℕ). reclaim_found f e w.dock.finished records w.dock.packets) found
      ∙ rw (going_on, going) refl in
      let holds = k.flights.each r within fly in
      let low : v.place < k.K = omega (arith, holds.begins, slot_lt k.K some_place (w.first r)) in
      ⊎_elim
      (λ (q : (reclaim_flying e w.dock.finished records w.dock.packets v r).0 ≡ nothing e).
      absurd (false≢true (sym (ap (λ (x : After Reclaimed). final x.answer) (ap (λ (t : After Reclaimed × List ℕ × List ℕ). t.0) is ∙ q)) ∙ over)))
      (λ (o : Over e.shape.slots w.dock.finished v). over_heard free (w.first r) v holds o)
      (flying_out k.K some_place e k.shape w.dock.finished (λ i event l said. (k.places i event l said).fine) v low r
      holds.counts records w.dock.packets)

  -- ---- what the reclaim leaves

  -- The record is freed and its TRBs taken off: those that stay outstanding cover what no event has passed, and so what is not consumed.
  left_kept : (r : ℕ) (halts : Bool) (records packets : List ℕ) → r < record_count → e.work.busy ≡ false → Same w.dock.records records
      → (flies w.dock.records e.account.occupancy r ≡ true → w.first r + (record_at w.dock.records r).count ≤ w.heard)
      → Kept (with_dock w (state_of (leave e r (flight_part w.dock.records e.account.occupancy r) halts)
      w.dock.ring w.dock.finished records packets))
  unfolding leave model.free
  left_kept r halts records packets within free same passed =
      let K = k.K in
      let old = w.dock.records in
      let occupancy = e.account.occupancy in
      let part = flight_part old occupancy r in
      let total = length w.trbs in
      let s = model_in K w k.before k.work in
      let flights = flights_freed K old occupancy w.first total w.heard k.flights e.account refl r within passed in
      let sum = in_flight_lem K old (masks.freed occupancy r) w.first total w.heard flights in
      let may : model.MayFree s part =
      record {
        covers = omega (
          arith,
          sum,
          freed_sum e.account old r within,
          h.books.outstanding_sum,
          k.heard_consumed,
          length_layout (flat K) (pos K 0) (bared w.trbs),
          bared_length w.trbs,
        );
      } in
      record {
        K = K;
        some_slot = k.some_slot;
        shape = k.shape;
        link_slot = k.link_slot;
        before = k.before;
        work = k.work;
        inv = free_keeps some_place s k.inv part may;
        numbered = free_numbered some_place s part (bared w.trbs) k.numbered;
        under = rests (record { free = free; is = idle_kept w k free });
        begun = λ b. absurd (false≢true (sym free ∙ b));
        stored = k.stored;
        split = k.split;
        heard_consumed = k.heard_consumed;
        places = k.places;
        flights = flights_same K old (masks.freed occupancy r) w.first total w.heard flights records same;
      }

  pub reclaimed_kept : Kept (act w (calls (reclaims id)))
  reclaimed_kept =
      let t = result in
      let same =
      same_after (find_in w.dock.records e.account.occupancy id) w.dock.records t.1
      (reclaim_records e w.dock.finished w.dock.records w.dock.packets id) in
      ⊎_elim
      (λ (u : Untouched w.dock t). rw (u.endpoint, u.records, u.packets) k)
      (λ (u : Looked w.dock id t).
      let free = reclaim_idle e (length w.dock.finished) w.dock.records (length w.dock.packets) id u.allowed in
      ⊎_elim
      (λ (n : t.0 ≡ nothing e).
      rw n (idle_changes w k e t.1 t.2 (record { at = refl; shape = refl; account = refl; free = free; still = free }) same))
      (λ (n : Left e u.number (flight_part w.dock.records e.account.occupancy u.number) t.0).
      rw n.gone (left_kept u.number n.halts t.1 t.2 u.lowest.within free same (left_heard u n.over)))
      u.touches.end)
      (reclaim_result w.dock id)

-- In every state that is reached from making, a reclaim that is done names the id that was asked for, and reports no more bytes than its request
-- asked for, or, of an ISO request, the sum of its packets as the packet table then has them. Assumes nothing.
use Rattle.std.specs.Prelude.{Option, Some, None, Ok}
use Rattle.trb.specs.declared.Words.{Words}
use Prim.Native.Nat.{ℕ, ◌<◌, ◌≤◌}
use mathlib.Core.Bool.{true, ◌||◌}
use mathlib.Core.List.{List}
use mathlib.Core.Path.{◌≡◌, refl, sym, ap, ◌∙◌, subst}
use native.Mathlib.Omega.{arith}
use lib.Dec.{eqb}
use lib.ListN.{length}
use Rattle.base.proofs.Decide.{if_so}
use Rattle.mask.specs.Bit.{sum}
use Rattle.sizes.specs.Sizes.{record_count}
use Rattle.finished.specs.Finished.{finished_at}
use Rattle.packets.specs.Packets.{packet_at}
use Rattle.records.specs.Kinds.{kind_is, control, bulk, interrupt, isoch}
use Rattle.records.proofs.KindLaws.{kind_true, kind_false, kinds_apart}
use Rattle.records.specs.States.{state_is, in_flight, stopped}
use Rattle.records.proofs.StateLaws.{state_true}
use Rattle.records.specs.Records.{record_at}
use Rattle.records.specs.declared.Record.{Record}
use Rattle.records.proofs.RecordLaws.{id_is}
use Rattle.dock.specs.declared.Completion.{Completion}
use Rattle.dock.specs.declared.Endpoint.{Endpoint}
use Rattle.dock.specs.declared.After.{After}
use Rattle.dock.specs.declared.Reclaimed.{Reclaimed}
use Rattle.dock.specs.declared.Reclaimed.TheVariants as answer
use Rattle.dock.specs.Worth.{accepted}
use Rattle.dock.specs.Reclaim.{completion, complete, code_of, bulk_by, reclaim_bulk, Seen, onward, ends, stage_by, status_by, recorded_by, status_place, data_seen, after_stage, reclaim_control, Swept, unfinished, fatal, found, sweep, swept_answer, reclaim_iso, reclaim_no, reclaim_flying, reclaim_found, reclaim}
use Rattle.dock.specs.Run.{State, reclaims, after, Reached}
use Rattle.dock.proofs.ReachedBookLaws.{by_flies}
use Rattle.dock.proofs.RetireLaws.{picked}
use Rattle.dock.proofs.ReclaimLaws.{Measured}
use Rattle.dock.proofs.ReachedSoundLaws.{reached_sound}
use Rattle.dock.proofs.ReachedFitLaws.{reached_placed}
use Rattle.dock.proofs.ReclaimOnceLaws.{Has, held_found}
use Rattle.dock.proofs.ReclaimAnswerLaws.{done_reports, never_done, bulk_length, control_length, iso_length}

-- ---- a completion is its own request's

-- The completion has the record's id and number, and some length.
abbrev pub Reports : Record → ℕ → Completion → Type 0
Reports v number c = (size : ℕ) × (c ≡ completion v number size)

module _ (e : Endpoint) (v : Record) (number : ℕ) (c : Completion) where
  bulk_by_lem : (f : Option Words) → (bulk_by f e v number).answer ≡ Ok (answer.Done c) → Reports v number c
  bulk_by_lem None d = absurd (never_done e v number c d)
  bulk_by_lem (Some w) d = (_, done_reports e v number _ _ _ c d)

  bulk_reports : (finished : List ℕ) → (reclaim_bulk e finished v number).answer ≡ Ok (answer.Done c) → Reports v number c
  unfolding reclaim_bulk
  bulk_reports finished = bulk_by_lem (finished_at finished v.place)

  status_by_lem : (f : Option Words) (recorded : ℕ) → (status_by f e v number recorded).answer ≡ Ok (answer.Done c) → Reports v number c
  status_by_lem None recorded d = absurd (never_done e v number c d)
  status_by_lem (Some w) recorded d = (_, done_reports e v number _ _ _ c d)

  stage_by_lem : (f : Option Words) (more : After Reclaimed) → (more.answer ≡ Ok (answer.Done c) → Reports v number c)
      → (after_stage (stage_by f e v number) more).answer ≡ Ok (answer.Done c) → Reports v number c
  stage_by_lem None more m = m
  stage_by_lem (Some w) more m =
      picked (λ (s : Seen). (after_stage s more).answer ≡ Ok (answer.Done c) → Reports v number c) (accepted (code_of w)) onward (ends (complete e v number (code_of w) true 0))
      (λ t. m) (λ t d. (_, done_reports e v number _ _ _ c d))

  control_reports : (finished records : List ℕ) → (reclaim_control e finished records v number).0.answer ≡ Ok (answer.Done c) → Reports v number c
  unfolding reclaim_control
  control_reports finished records =
      let seen = data_seen e finished v in
      let status = finished_at finished (status_place e v) in
      let last = status_by status e v number (recorded_by seen v) in
      stage_by_lem (finished_at finished v.place) (after_stage (stage_by seen e v number) last) (stage_by_lem seen last (status_by_lem status (recorded_by seen v)))

  swept_by_lem : (s : Swept) (packets : List ℕ) → (swept_answer s e v number packets).answer ≡ Ok (answer.Done c) → Reports v number c
  swept_by_lem unfinished packets d = absurd (never_done e v number c d)
  swept_by_lem (fatal code) packets d = (_, done_reports e v number _ _ _ c d)
  swept_by_lem (found code) packets d = (_, done_reports e v number _ _ _ c d)

  iso_reports : (finished packets : List ℕ) → (reclaim_iso e finished packets v number).0.answer ≡ Ok (answer.Done c) → Reports v number c
  unfolding reclaim_iso
  iso_reports finished packets = let s = sweep e.shape.slots finished v number v.count 0 packets in swept_by_lem s.0 s.1

  -- ---- a record in flight, of any kind

  flying_reports : (finished records packets : List ℕ) → (reclaim_flying e finished records packets v number).0.answer ≡ Ok (answer.Done c) → Reports v number c
  unfolding reclaim_flying
  flying_reports finished records packets =
      let P : After Reclaimed × List ℕ × List ℕ → Type 0 = λ t. t.0.answer ≡ Ok (answer.Done c) → Reports v number c in
      picked P (kind_is v.kind control) _ _ (λ t. control_reports finished records)
      (λ t. picked P (kind_is v.kind isoch) _ _ (λ u. iso_reports finished packets)
      (λ u. picked P (kind_is v.kind bulk || kind_is v.kind interrupt) _ _ (λ w. bulk_reports finished) (λ w d. absurd (never_done e v number c d))))

  flying_length : (finished records packets : List ℕ) → Measured v → (v.kind ≡ isoch → ⊥)
      → (reclaim_flying e finished records packets v number).0.answer ≡ Ok (answer.Done c) → c.length ≤ v.length
  unfolding reclaim_flying
  flying_length finished records packets m other =
      let P : After Reclaimed × List ℕ × List ℕ → Type 0 = λ t. t.0.answer ≡ Ok (answer.Done c) → c.length ≤ v.length in
      picked P (kind_is v.kind control) _ _ (λ t. control_length e v number finished records m c)
      (λ t. picked P (kind_is v.kind isoch) _ _ (λ u d. absurd (other (kind_true v.kind isoch u)))
      (λ u. picked P (kind_is v.kind bulk || kind_is v.kind interrupt) _ _ (λ w. bulk_length e v number finished c) (λ w d. absurd (never_done e v number c d))))

  flying_total : (finished records packets : List ℕ) → v.kind ≡ isoch → (reclaim_flying e finished records packets v number).0.answer ≡ Ok (answer.Done c)
      → c.length ≡ sum v.count (λ (k : ℕ). (packet_at (reclaim_flying e finished records packets v number).2 number k).actual)
  unfolding reclaim_flying
  flying_total finished records packets kind =
      let P : After Reclaimed × List ℕ × List ℕ → Type 0 = λ t. t.0.answer ≡ Ok (answer.Done c) → c.length ≡ sum v.count (λ (k : ℕ). (packet_at t.2 number k).actual) in
      picked P (kind_is v.kind control) _ _ (λ t d. absurd (kinds_apart v.kind control isoch refl (kind_true v.kind control t) kind))
      (λ t. picked P (kind_is v.kind isoch) _ _ (λ u. iso_length e v number finished packets c) (λ u d. absurd (kind_false v.kind isoch u kind)))

-- ---- the call

module _ {s : State} (h : Reached s) (id r : ℕ) (l : r < record_count) (has : Has s id r) (c : Completion) where
  abbrev result : After Reclaimed × List ℕ × List ℕ
  result = reclaim s.endpoint s.finished s.records s.packets id

  abbrev flight : After Reclaimed × List ℕ × List ℕ
  flight = reclaim_flying s.endpoint s.finished s.records s.packets (record_at s.records r) r

  -- Only a record in flight is ever done.
  abbrev Flown : After Reclaimed × List ℕ × List ℕ → Type 0
  Flown t = t.0.answer ≡ Ok (answer.Done c) → ((record_at s.records r).state ≡ in_flight) × (t ≡ flight)

  at_record : Flown (reclaim_found (Some r) s.endpoint s.finished s.records s.packets)
  at_record =
      picked Flown (state_is (record_at s.records r).state stopped) _ _ (λ t d. absurd (let z : ◌≡◌ {A = ℕ} 0 1 = cc in omega arith))
      (λ t. picked Flown (state_is (record_at s.records r).state in_flight) _ _ (λ u d. (state_true (record_at s.records r).state in_flight u, refl))
      (λ u d. absurd (let z : ◌≡◌ {A = ℕ} 0 1 = cc in omega arith)))

  flown : Flown result
  unfolding reclaim
  flown =
      let at = held_found s (reached_sound h) id r l has in
      picked Flown (eqb (reclaim_no s.endpoint (length s.finished) s.records (length s.packets) id) 0) _ _
      (λ t. subst (λ (f : Option ℕ). Flown (reclaim_found f s.endpoint s.finished s.records s.packets)) (sym at) at_record)
      (λ t d. absurd (let z : ◌≡◌ {A = ℕ} 0 1 = cc in omega arith))

  answered : (d : result.0.answer ≡ Ok (answer.Done c)) → flight.0.answer ≡ Ok (answer.Done c)
  answered d = sym (ap (λ (t : After Reclaimed × List ℕ × List ℕ). t.0.answer) (flown d).1) ∙ d

  -- The completion is that of the record that has the id,
  pub reclaim_reports : result.0.answer ≡ Ok (answer.Done c) → Reports (record_at s.records r) r c
  reclaim_reports d = flying_reports s.endpoint (record_at s.records r) r c s.finished s.records s.packets (answered d)

  pub reclaim_names : result.0.answer ≡ Ok (answer.Done c) → c.id ≡ id
  reclaim_names d = ap (λ (x : Completion). x.id) (reclaim_reports d).1 ∙ id_is s.records r ∙ has.1

  -- its length is at most the one asked for,
  pub reclaim_length : ((record_at s.records r).kind ≡ isoch → ⊥) → result.0.answer ≡ Ok (answer.Done c) → c.length ≤ (record_at s.records r).length
  reclaim_length other d =
      let flies = if_so (by_flies s.records s.endpoint.account.occupancy r) (has.0, (flown d).0) in
      flying_length s.endpoint (record_at s.records r) r c s.finished s.records s.packets ((reached_placed h).bounds r l flies).2 other (answered d)

  -- and of an ISO request the sum of its packets.
  pub reclaim_total : (record_at s.records r).kind ≡ isoch → result.0.answer ≡ Ok (answer.Done c)
      → c.length ≡ sum (record_at s.records r).count (λ (k : ℕ). (packet_at (after s (reclaims id)).packets r k).actual)
  reclaim_total kind d =
      flying_total s.endpoint (record_at s.records r) r c s.finished s.records s.packets kind (answered d)
      ∙ ap (λ (t : After Reclaimed × List ℕ × List ℕ). sum (record_at s.records r).count (λ (k : ℕ). (packet_at t.2 r k).actual)) (sym (flown d).1)

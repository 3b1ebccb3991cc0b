-- The bytes that a reclaim tells of a request that is done, by its id: for bulk and interrupt the length asked for less what remains, for control what
-- the data's event tells, in this reclaim or an earlier one, or the length asked for where no data event came; with an event that the standard lets a
-- controller write for n bytes moved, exactly n. Assumes nothing.
use Rattle.std.specs.Prelude.{Option, Some, None}
use Prim.Native.Nat.{ℕ, ◌+◌, ◌-◌, ◌%◌, ◌^◌, ◌<◌, ◌≤◌}
use mathlib.Core.Bool.{true, false, not, ◌&&◌}
use mathlib.Core.List.{List, [], ◌∷◌}
use mathlib.Core.Logic.{◌⊎◌, ⊎_elim}
use mathlib.Core.Path.{◌≡◌, refl, ap, ◌∙◌}
use native.Mathlib.Nat.{mod-eq_of_lt}
use native.Mathlib.Omega.{arith}
use borrow.Author.Tests.{eqb-true, eqb-false, ne_eqb, not-false}
use lib.Dec.{eqb, ltb}
use lib.ListN.{length}
use Rattle.base.specs.Fields.{flag}
use Rattle.base.proofs.Chosen.{quiet}
use Rattle.base.proofs.Decide.{both, by_eqb}
use Rattle.mask.specs.Occupancy.{held}
use Rattle.sizes.specs.Sizes.{ring_size, record_count, records_size, packets_size}
use Rattle.ids.specs.Free.{id_at}
use Rattle.ids.specs.Lookup.{find_in}
use Rattle.ids.proofs.LookupLaws.{find_finds}
use Rattle.ids.proofs.AnyLaws.{by_held}
use Rattle.trb.specs.declared.Words.{Words}
use Rattle.finished.specs.Finished.{finished_at}
use Rattle.records.specs.Kinds.{control, bulk, interrupt, isoch}
use Rattle.records.proofs.KindLaws.{eq_kind, ne_kind, kinds_apart}
use Rattle.records.specs.States.{in_flight}
use Rattle.records.specs.Records.{recorded_word, word_at, record_at, set_word}
use Rattle.records.specs.declared.Record.{Record}
use Rattle.records.proofs.RecordLaws.{id_is, word_set, word_kept}
use Rattle.dock.specs.declared.Endpoint.{Endpoint}
use Rattle.dock.specs.declared.After.{After}
use Rattle.dock.specs.declared.Reclaimed.{Reclaimed}
use Rattle.dock.specs.Numbers.{Numbered, reclaimed_number}
use Rattle.dock.specs.RowOne.{fits_with}
use Rattle.dock.specs.Worth.{accepted, moved_bytes}
use Rattle.dock.specs.Residual.{Told, Tells, Writes}
use Rattle.dock.specs.Reclaim.{mismatched, complete, code_of, remaining_of, reclaim_bulk, onward, stage_by, recorded_length, status_by, recorded_by, data_place, status_place, data_seen, after_stage, reclaim_control, reclaim_tests, reclaim_no, reclaim_flying, reclaim_found, reclaim, nothing}
use Rattle.dock.proofs.RefusalLaws.{reclaim_acts}
use Rattle.dock.proofs.ReachedSoundLaws.{fits_with_parts}
use Rattle.dock.proofs.RetireLaws.{picked}
use Rattle.dock.proofs.ReclaimAnswerLaws.{done_last}
use Rattle.dock.proofs.ReclaimResidualLaws.{moved_residual, data_moved}

-- The answer with which a request of this record is done, of so many bytes: id, length, yes.
abbrev pub done_with : Record → ℕ → ℕ → Numbered
done_with v id n = (0, id ∷ n ∷ flag (ltb 0 n && v.incoming) ∷ [])

-- A reclaim that is not refused, of a request in flight that is not cancelled, whose record is r.
pub record Due (e : Endpoint) (finished records packets : List ℕ) (id r : ℕ) : Type 0 where
  pub admitted : reclaim_no e (length finished) records (length packets) id ≡ 0
  pub holder : find_in records e.account.occupancy id ≡ Some r
  pub flying : (record_at records r).state ≡ in_flight
  pub wanted : (record_at records r).cancelled ≡ false

-- What stands in the place of a stage lets the next stages be looked at: nothing, or an accepted event.
abbrev pub Passes : Option Words → Type 0
Passes None = Unit {0}
Passes (Some w) = accepted (code_of w) ≡ true

passes_on : (f : Option Words) (e : Endpoint) (v : Record) (number : ℕ) → Passes f → stage_by f e v number ≡ onward
passes_on None e v number p = refl
passes_on (Some w) e v number p = rw p

-- What is recorded stands one above the length, and 0 is nothing.
recorded_is : (v : Record) (n : ℕ) → v.recorded ≡ n + 1 → recorded_length v (recorded_by None v) ≡ n
recorded_is v n was =
    let recorded : ℕ = recorded_by None v in
    picked (λ (x : ℕ). x ≡ n) (eqb recorded 0) _ _ (λ z. omega (arith, eqb-true recorded 0 z)) (λ z. omega arith)

unheard_is : (v : Record) → v.recorded ≡ 0 → recorded_length v (recorded_by None v) ≡ v.length
unheard_is v was =
    let recorded : ℕ = recorded_by None v in
    picked (λ (x : ℕ). x ≡ v.length) (eqb recorded 0) v.length (recorded - 1) (λ z. refl) (λ z. absurd (eqb-false recorded 0 z (omega arith)))

recorded_less : (v : Record) (n : ℕ) → n ≤ v.length → v.length < 2 ^ 64 → recorded_length v ((n + 1) % 2 ^ 64) ≡ n
recorded_less v n l fits =
    let recorded : ℕ = (n + 1) % 2 ^ 64 in
    picked (λ (x : ℕ). x ≡ n) (eqb recorded 0) _ _ (λ z. omega (arith, eqb-true recorded 0 z)) (λ z. omega (arith, eqb-false recorded 0 z))

module _ (e : Endpoint) (finished records packets : List ℕ) (id r : ℕ) (h : Due e finished records packets id r) where
  abbrev v : Record
  v = record_at records r

  abbrev result : After Reclaimed × List ℕ × List ℕ
  result = reclaim e finished records packets id

  -- ---- the call is that of its record's kind

  flies_here : result ≡ reclaim_flying e finished records packets v r
  flies_here =
      reclaim_acts e finished records packets id h.admitted
      ∙ ap (λ (f : Option ℕ). reclaim_found f e finished records packets) h.holder
      ∙ rw h.flying

  -- The record has the id.
  named : v.id ≡ id
  named =
      let low = rw h.holder at (find_finds record_count (held e.account.occupancy) (id_at records) id) in
      id_is records r ∙ ((by_held (held e.account.occupancy) (id_at records) id r).so low.here).1

  records_long_lem : length records ≡ records_size
  unfolding reclaim_no reclaim_tests
  records_long_lem =
      let tables = fits_with e records && eqb (length finished) (ring_size e.shape.slots) && eqb (length packets) packets_size in
      let all = not-false tables (quiet (reclaim_tests e (length finished) records (length packets) id) 0 refl h.admitted (omega arith)) in
      ((both (both (fits_with_parts e records) (by_eqb (length finished) (ring_size e.shape.slots))) (by_eqb (length packets) packets_size)).so all).0.0.0.1

  -- A completion whose code is accepted is done.
  done_here : (code size : ℕ) → accepted code ≡ true → mismatched v ≡ false
      → reclaimed_number (complete e v r code (not (accepted code)) size).answer ≡ done_with v id size
  done_here code size a plain = rw (done_last e v r code (not (accepted code)) size h.wanted plain (rw a), named)

  -- ---- bulk and interrupt

  module _ (kind : (v.kind ≡ bulk) ⊎ (v.kind ≡ interrupt)) where
    other : mismatched v ≡ false
    unfolding mismatched
    other = rw (ne_kind v.kind isoch (λ (q : v.kind ≡ isoch). ⊎_elim (λ (k : v.kind ≡ bulk). kinds_apart v.kind bulk isoch refl k q) (λ (k : v.kind ≡ interrupt). kinds_apart v.kind interrupt isoch refl k q) kind))

    is_bulk : result ≡ (reclaim_bulk e finished v r, records, packets)
    unfolding reclaim_flying
    is_bulk = flies_here ∙ ⊎_elim (λ (k : v.kind ≡ bulk). rw k) (λ (k : v.kind ≡ interrupt). rw k) kind

    module _ (w : Words) (here : finished_at finished v.place ≡ Some w) (a : accepted (code_of w) ≡ true) where
      -- With an accepted event in its place it is done, with the length asked for less what remains,
      pub bulk_told : reclaimed_number result.0.answer ≡ done_with v id (v.length - remaining_of w)
      unfolding reclaim_bulk
      bulk_told =
          ap (λ (x : After Reclaimed × List ℕ × List ℕ). reclaimed_number x.0.answer) is_bulk
          ∙ rw here (done_here (code_of w) (moved_bytes v.length (remaining_of w)) a other)

      -- which is what was moved.
      pub bulk_exact : (t : Told) (n : ℕ) → Tells (code_of w) t → Writes t v.length (remaining_of w) n → reclaimed_number result.0.answer ≡ done_with v id n
      bulk_exact t n says is = bulk_told ∙ rw (moved_residual says a v.length (remaining_of w) n is)

  -- ---- control

  module _ (kind : v.kind ≡ control) (setup : Passes (finished_at finished v.place)) where
    plain : mismatched v ≡ false
    unfolding mismatched
    plain = rw kind

    abbrev seen : Option Words
    seen = data_seen e finished v

    abbrev recorded : ℕ
    recorded = recorded_by seen v

    -- Behind a setup that passes, data and status are looked at, and the data's length is recorded.
    is_control : result
        ≡ (after_stage (stage_by seen e v r) (status_by (finished_at finished (status_place e v)) e v r recorded), set_word records r recorded_word recorded, packets)
    unfolding reclaim_flying reclaim_control
    is_control = flies_here ∙ rw (eq_kind v.kind control kind, passes_on (finished_at finished v.place) e v r setup)

    -- The record keeps its kind and length.
    pub kind_kept : ((record_at result.1 r).kind ≡ v.kind) × ((record_at result.1 r).length ≡ v.length)
    unfolding record_at
    kind_kept = (
      ap (λ (x : After Reclaimed × List ℕ × List ℕ). word_at x.1 r 1) is_control ∙ word_kept records r recorded_word recorded r 1 (λ q. omega arith),
      ap (λ (x : After Reclaimed × List ℕ × List ℕ). word_at x.1 r 6) is_control ∙ word_kept records r recorded_word recorded r 6 (λ q. omega arith),
    )

    -- An event in the data's place is looked at where the request has a length.
    data_seen_lem : (d : Words) → 0 < v.length → finished_at finished (data_place e v) ≡ Some d → seen ≡ Some d
    data_seen_lem d some stands = rw (ne_eqb v.length 0 (λ (q : v.length ≡ 0). omega arith), stands)

    -- With an accepted status event it is done, with what is recorded:
    module _ (w : Words) (here : finished_at finished (status_place e v) ≡ Some w) (a : accepted (code_of w) ≡ true) where
      control_told : Passes seen → reclaimed_number result.0.answer ≡ done_with v id (recorded_length v recorded)
      control_told passes =
          ap (λ (x : After Reclaimed × List ℕ × List ℕ). reclaimed_number x.0.answer) is_control
          ∙ rw (passes_on seen e v r passes, here) (done_here (code_of w) (recorded_length v recorded) a plain)

      -- by an accepted data event the length asked for less what remains, which is what was moved;
      module _ (d : Words) (some : 0 < v.length) (stands : finished_at finished (data_place e v) ≡ Some d) (b : accepted (code_of d) ≡ true)
          (fits : v.length < 2 ^ 64) where
        event_told : (n : ℕ) → recorded_length v (recorded_by (Some d) v) ≡ n → reclaimed_number result.0.answer ≡ done_with v id n
        event_told n is = control_told (rw (data_seen_lem d some stands) b) ∙ rw (data_seen_lem d some stands, is)

        pub data_told : reclaimed_number result.0.answer ≡ done_with v id (v.length - remaining_of d)
        data_told = event_told (v.length - remaining_of d) (recorded_less v (v.length - remaining_of d) (omega arith) fits)

        pub data_exact : (t : Told) (n : ℕ) → Tells (code_of d) t → Writes t v.length (remaining_of d) n
            → reclaimed_number result.0.answer ≡ done_with v id n
        data_exact t n says is = event_told n (data_moved e v r d t says n is b fits)

      -- where no data event stands what an earlier reclaim recorded,
      pub recorded_told : (n : ℕ) → seen ≡ None → v.recorded ≡ n + 1 → reclaimed_number result.0.answer ≡ done_with v id n
      recorded_told n empty was =
          control_told (rw empty tt) ∙ ap (done_with v id) (ap (λ (f : Option Words). recorded_length v (recorded_by f v)) empty ∙ recorded_is v n was)

      -- and the length asked for where none did.
      pub unheard_told : seen ≡ None → v.recorded ≡ 0 → reclaimed_number result.0.answer ≡ done_with v id v.length
      unheard_told empty was =
          control_told (rw empty tt) ∙ ap (done_with v id) (ap (λ (f : Option Words). recorded_length v (recorded_by f v)) empty ∙ unheard_is v was)

    -- A reclaim that finds the data's event records it,
    module _ (d : Words) (some : 0 < v.length) (stands : finished_at finished (data_place e v) ≡ Some d) (b : accepted (code_of d) ≡ true)
        (fits : v.length + 1 < 2 ^ 64) where
      within : r < record_count
      within = (rw h.holder at (find_finds record_count (held e.account.occupancy) (id_at records) id)).within

      pub data_recorded : (record_at result.1 r).recorded ≡ v.length - remaining_of d + 1
      unfolding record_at
      data_recorded =
          let n : ℕ = v.length - remaining_of d + 1 in
          ap (λ (x : After Reclaimed × List ℕ × List ℕ). word_at x.1 r recorded_word) is_control
          ∙ rw (data_seen_lem d some stands)
          (word_set records r recorded_word (n % 2 ^ 64) (let l = within in omega (arith, records_long_lem)) ∙ mod-eq_of_lt (omega arith))

      pub moved_recorded : (t : Told) (n : ℕ) → Tells (code_of d) t → Writes t v.length (remaining_of d) n → (record_at result.1 r).recorded ≡ n + 1
      moved_recorded t n says is = data_recorded ∙ ap (λ (x : ℕ). x + 1) (moved_residual says b v.length (remaining_of d) n is)

      -- and while no status event stands answers 10.
      pub data_waits : finished_at finished (status_place e v) ≡ None → result.0 ≡ nothing e
      data_waits empty = ap (λ (x : After Reclaimed × List ℕ × List ℕ). x.0) is_control ∙ rw (data_seen_lem d some stands, b, empty)

-- A reclaim that answers a refusal leaves everything; one that answers 10, nothing, leaves the endpoint; and whatever it answers, all of the records is
-- as it was but for the recorded length of the record that has the id. It is lent the finished table to read only. Assumes nothing.
use Rattle.std.specs.Prelude.{Option, Some, None, Ok, Err}
use Rattle.trb.specs.declared.Words.{Words}
use Prim.Native.Nat.{ℕ}
use mathlib.Core.Bool.{Bool, true, false, ◌||◌, false≢true}
use mathlib.Core.List.{List}
use mathlib.Core.Logic.{◌⊎◌, inl, inr, ⊎_elim}
use mathlib.Core.Path.{◌≡◌, refl, sym, ap, subst, ◌∙◌}
use native.Mathlib.Omega.{arith}
use lib.ListN.{length}
use Rattle.base.specs.First.{pick, first}
use Rattle.base.proofs.Compare.{same_or_not}
use Rattle.ids.specs.Lookup.{find_in}
use Rattle.finished.specs.Finished.{finished_at}
use Rattle.records.specs.Kinds.{kind_is, control, bulk, interrupt, isoch}
use Rattle.records.specs.States.{state_is, in_flight, stopped}
use Rattle.records.specs.Records.{recorded_word, record_at, set_word}
use Rattle.records.specs.declared.Record.{Record}
use Rattle.dock.specs.declared.Endpoint.{Endpoint}
use Rattle.dock.specs.declared.After.{After}
use Rattle.dock.specs.declared.Reclaimed.{Reclaimed}
use Rattle.dock.specs.declared.Reclaimed.TheVariants as answer
use Rattle.dock.specs.declared.Refusal.{Refusal}
use Rattle.dock.specs.Refusals.{refusal}
use Rattle.dock.specs.Reclaim.{final, reclaim_stopped, complete_tests, complete, nothing, code_of, bulk_by, reclaim_bulk, Seen, onward, ends, stage_by, status_by, status_place, data_seen, recorded_by, after_stage, records_after, reclaim_control, Swept, unfinished, fatal, found, swept_answer, reclaim_iso, sweep, reclaim_no, reclaim_flying, reclaim_found, reclaim}
use Rattle.dock.specs.Worth.{accepted}
use Rattle.dock.proofs.ReclaimLaws.{over_answer}
use Rattle.dock.proofs.RefusalLaws.{reclaim_refuses, reclaim_acts}

-- ---- an answer that ends the request, and one that does not

-- Where the answer is nothing the endpoint is as it was, and it is no refusal.
record Honest (e : Endpoint) (r : After Reclaimed) : Type 0 where
  nothing : r.answer ≡ Ok answer.Nothing → r.endpoint ≡ e
  admitted : (why : Refusal) → r.answer ≡ Err why → ⊥

settled : (e : Endpoint) (r : After Reclaimed) → final r.answer ≡ true → Honest e r
settled e r s = record {
  nothing = λ q. absurd (false≢true (sym (ap final q) ∙ s));
  admitted = λ why q. false≢true (sym (ap final q) ∙ s);
}

stays : (e : Endpoint) → Honest e (nothing e)
stays e = record { nothing = λ q. refl; admitted = λ why q. let z : ◌≡◌ {A = ℕ} 0 1 = cc in omega arith }

completes : (e : Endpoint) (v : Record) (number code : ℕ) (fails : Bool) (size : ℕ) → Honest e (complete e v number code fails size)
unfolding complete
completes e v number code fails size =
    settled e (complete e v number code fails size) (over_answer (first (complete_tests v fails)) v number code size)

-- ---- by the kind of the request

bulk_honest : (e : Endpoint) (f : Option Words) (v : Record) (number : ℕ) → Honest e (bulk_by f e v number)
bulk_honest e None v number = stays e
bulk_honest e (Some w) v number = completes e v number (code_of w) _ _

status_honest : (e : Endpoint) (f : Option Words) (v : Record) (number recorded : ℕ) → Honest e (status_by f e v number recorded)
status_honest e None v number recorded = stays e
status_honest e (Some w) v number recorded = completes e v number (code_of w) _ _

-- What a stage says, and what follows it.
record Said (e : Endpoint) (s : Seen) : Type 0 where
  then : (r : After Reclaimed) → Honest e r → Honest e (after_stage s r)

judged : (e : Endpoint) (b : Bool) (r : After Reclaimed) → Honest e r → Said e (pick b onward (ends r))
judged e true r h = record { then = λ x k. k }
judged e false r h = record { then = λ x k. h }

stage_said : (e : Endpoint) (f : Option Words) (v : Record) (number : ℕ) → Said e (stage_by f e v number)
stage_said e None v number = record { then = λ x k. k }
stage_said e (Some w) v number = judged e (accepted (code_of w)) (complete e v number (code_of w) true 0) (completes e v number (code_of w) true 0)

control_honest : (e : Endpoint) (finished records : List ℕ) (v : Record) (number : ℕ) → Honest e (reclaim_control e finished records v number).0
unfolding reclaim_control
control_honest e finished records v number =
    let seen = data_seen e finished v in
    let status = finished_at finished (status_place e v) in
    (stage_said e (finished_at finished v.place) v number).then _
    ((stage_said e seen v number).then _ (status_honest e status v number (recorded_by seen v)))

swept_honest : (e : Endpoint) (s : Swept) (v : Record) (number : ℕ) (packets : List ℕ) → Honest e (swept_answer s e v number packets)
swept_honest e unfinished v number packets = stays e
swept_honest e (fatal code) v number packets = completes e v number code true 0
swept_honest e (found code) v number packets = completes e v number code false _

-- ---- the records

-- The table afterwards: as it was, but for the recorded word of the record that was found.
abbrev pub RecordsAfter : Option ℕ → List ℕ → List ℕ → Type 0
RecordsAfter None before after = after ≡ before
RecordsAfter (Some r) before after = (after ≡ before) ⊎ ((value : ℕ) × (after ≡ set_word before r recorded_word value))

unchanged : (l : Option ℕ) (records : List ℕ) → RecordsAfter l records records
unchanged None records = refl
unchanged (Some r) records = inl refl

seen_records : (s : Seen) (records : List ℕ) (r value : ℕ) → RecordsAfter (Some r) records (records_after s records (set_word records r recorded_word value))
seen_records onward records r value = inr (value, refl)
seen_records (ends x) records r value = inl refl

-- ---- a record that is found

-- Endpoint and records of a reclaim.
record Fair (e : Endpoint) (l : Option ℕ) (records : List ℕ) (s : After Reclaimed × List ℕ × List ℕ) : Type 0 where
  one : Honest e s.0
  table : RecordsAfter l records s.1

chosen : (e : Endpoint) (l : Option ℕ) (records : List ℕ) (b : Bool) (x y : After Reclaimed × List ℕ × List ℕ) → Fair e l records x → Fair e l records y
    → Fair e l records (pick b x y)
chosen e l records true x y p q = p
chosen e l records false x y p q = q

flying_fair : (e : Endpoint) (finished records packets : List ℕ) (v : Record) (r : ℕ)
    → Fair e (Some r) records (reclaim_flying e finished records packets v r)
unfolding reclaim_flying reclaim_control reclaim_iso reclaim_bulk
flying_fair e finished records packets v r =
    let seen = data_seen e finished v in
    let swept = sweep e.shape.slots finished v r v.count 0 packets in
    chosen e (Some r) records (kind_is v.kind control) _ _
    (record {
      one = control_honest e finished records v r;
      table = seen_records (stage_by (finished_at finished v.place) e v r) records r (recorded_by seen v);
    })
    (chosen e (Some r) records (kind_is v.kind isoch) _ _
    (record { one = swept_honest e swept.0 v r swept.1; table = inl refl })
    (chosen e (Some r) records (kind_is v.kind bulk || kind_is v.kind interrupt) _ _
    (record { one = bulk_honest e (finished_at finished v.place) v r; table = inl refl })
    (record { one = stays e; table = inl refl })))

found_fair : (e : Endpoint) (finished records packets : List ℕ) (l : Option ℕ) → Fair e l records (reclaim_found l e finished records packets)
found_fair e finished records packets None = record { one = stays e; table = refl }
found_fair e finished records packets (Some r) =
    let v = record_at records r in
    chosen e (Some r) records (state_is v.state stopped) _ _
    (record { one = settled e (reclaim_stopped e v r) refl; table = inl refl })
    (chosen e (Some r) records (state_is v.state in_flight) _ _
    (flying_fair e finished records packets v r)
    (record { one = stays e; table = inl refl }))

-- ---- the call

module _ (e : Endpoint) (finished records packets : List ℕ) (id : ℕ) where
  abbrev number : ℕ
  number = reclaim_no e (length finished) records (length packets) id

  fair : number ≡ 0 → Fair e (find_in records e.account.occupancy id) records (reclaim e finished records packets id)
  fair passed =
      subst (λ (x : After Reclaimed × List ℕ × List ℕ). Fair e (find_in records e.account.occupancy id) records x)
      (sym (reclaim_acts e finished records packets id passed))
      (found_fair e finished records packets (find_in records e.account.occupancy id))

  -- A reclaim whose number is 0 answers no refusal.
  pub reclaim_admitted : number ≡ 0 → (why : Refusal) → (reclaim e finished records packets id).0.answer ≡ Err why → ⊥
  reclaim_admitted passed = (fair passed).one.admitted

  -- A refusal has the call's number, and leaves everything.
  pub reclaim_refused : (why : Refusal) → (reclaim e finished records packets id).0.answer ≡ Err why
      → reclaim e finished records packets id ≡ (record { answer = Err (refusal number); endpoint = e }, records, packets)
  reclaim_refused why q =
      ⊎_elim
      (λ (p : number ≡ 0). absurd (reclaim_admitted p why q))
      (λ (p : number ≡ 0 → ⊥). reclaim_refuses e finished records packets id p)
      (same_or_not number 0)

  -- Nothing (10) leaves the endpoint.
  pub reclaim_nothing : (reclaim e finished records packets id).0.answer ≡ Ok answer.Nothing → (reclaim e finished records packets id).0.endpoint ≡ e
  reclaim_nothing q =
      ⊎_elim
      (λ (p : number ≡ 0). (fair p).one.nothing q)
      (λ (p : number ≡ 0 → ⊥). ap (λ s. s.0.endpoint) (reclaim_refuses e finished records packets id p))
      (same_or_not number 0)

  -- Whatever the answer, the records are as they were, but for the recorded word of the record that has the id.
  pub reclaim_records : RecordsAfter (find_in records e.account.occupancy id) records (reclaim e finished records packets id).1
  reclaim_records =
      ⊎_elim
      (λ (p : number ≡ 0). (fair p).table)
      (λ (p : number ≡ 0 → ⊥).
      subst (λ (x : List ℕ). RecordsAfter (find_in records e.account.occupancy id) records x)
      (sym (ap (λ s. s.1) (reclaim_refuses e finished records packets id p)))
      (unchanged (find_in records e.account.occupancy id) records))
      (same_or_not number 0)

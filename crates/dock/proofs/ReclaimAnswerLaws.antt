-- What a completion reports: the order of its answers, when it halts the endpoint, lengths that never exceed what was asked for, and an ISO total
-- that is the sum of its packets. Assumes nothing.
use Rattle.std.specs.Prelude.{Option, Some, None, Ok, Result}
use Prim.Native.Nat.{ℕ, zero, suc, ◌+◌, ◌-◌, ◌<◌, ◌≤◌}
use mathlib.Core.Bool.{Bool, true, false, not, ◌&&◌, ◌||◌}
use mathlib.Core.List.{List, [], ◌∷◌}
use mathlib.Core.Logic.{⊎_elim}
use mathlib.Core.Path.{◌≡◌, refl, ap, ◌∙◌}
use native.Mathlib.Omega.{arith}
use borrow.Author.Tests.{eq-eqb, ne_eqb}
use lib.Dec.{eqb, ltb}
use lib.ListN.{length}
use Rattle.base.specs.Fields.{flag}
use Rattle.base.specs.First.{first}
use Rattle.mask.specs.Bit.{sum}
use Rattle.sizes.specs.Sizes.{record_count, records_size, packet_count}
use Rattle.ids.proofs.AnyLaws.{true_or_false}
use Rattle.trb.specs.declared.Words.{Words}
use Rattle.finished.specs.Finished.{finished_at}
use Rattle.packets.specs.Packets.{packet_at}
use Rattle.records.specs.Records.{record_at}
use Rattle.records.specs.declared.Record.{Record}
use Rattle.dock.specs.declared.Completion.{Completion}
use Rattle.dock.specs.declared.Endpoint.{Endpoint}
use Rattle.dock.specs.declared.Reclaimed.{Reclaimed}
use Rattle.dock.specs.declared.Refusal.{Refusal}
use Rattle.dock.specs.declared.After.{After}
use Rattle.dock.specs.declared.Reclaimed.TheVariants as answer
use Rattle.dock.specs.Worth.{bytes, refused, worth, counts, accepted, moved_bytes}
use Rattle.dock.specs.Reclaim.{leave, mismatched, complete_tests, completion, complete_answer, complete, code_of, remaining_of, bulk_by, reclaim_bulk, Seen, onward, ends, stage_by, status_by, recorded_length, recorded_by, status_place, data_seen, after_stage, reclaim_control, total, Swept, unfinished, fatal, found, sweep, swept_answer, reclaim_iso}
use Rattle.dock.specs.Numbers.{Numbered, reclaimed_number}
use Rattle.dock.proofs.RetireLaws.{picked}
use Rattle.dock.proofs.ReclaimLaws.{Measured, recorded_by_lem, control_own, iso_own}

or_false : (a : Bool) → (a || false) ≡ a
or_false true = refl
or_false false = refl

or_true : (a : Bool) → (a || true) ≡ true
or_true true = refl
or_true false = refl

and_false : (a b : Bool) → (a || (b && false)) ≡ a
and_false a true = or_false a
and_false a false = or_false a

-- ---- the order of the answers: "for a completion 7, 9, 8"

module _ (e : Endpoint) (v : Record) (number code : ℕ) (fails : Bool) (size : ℕ) where
  answers_cancelled : v.cancelled ≡ true → (complete e v number code fails size).answer ≡ Ok answer.Cancelled
  unfolding complete complete_tests
  answers_cancelled c = rw c

  answers_mismatch : v.cancelled ≡ false → mismatched v ≡ true → (complete e v number code fails size).answer ≡ Ok answer.Mismatch
  unfolding complete complete_tests mismatched
  answers_mismatch c m = rw (c, m)

  answers_failed : v.cancelled ≡ false → mismatched v ≡ false → fails ≡ true → (complete e v number code fails size).answer ≡ Ok (answer.Failed code)
  unfolding complete complete_tests mismatched
  answers_failed c m f = rw (c, m, f)

  answers_done : v.cancelled ≡ false → mismatched v ≡ false → fails ≡ false
      → (complete e v number code fails size).answer ≡ Ok (answer.Done (completion v number size))
  unfolding complete complete_tests mismatched
  answers_done c m f = rw (c, m, f)

  -- What it is answered, as the paper has it.
  abbrev told : Numbered
  told = reclaimed_number (complete e v number code fails size).answer

  -- A cancelled request is answered 7, whatever else;
  pub cancelled_first : v.cancelled ≡ true → told ≡ (7, [])
  cancelled_first c = ap reclaimed_number (answers_cancelled c)

  -- else one whose packets differ from the lengths given 9;
  pub mismatch_next : v.cancelled ≡ false → mismatched v ≡ true → told ≡ (9, [])
  mismatch_next c m = ap reclaimed_number (answers_mismatch c m)

  -- else a refused code 8, "with the code number";
  pub failed_next : v.cancelled ≡ false → mismatched v ≡ false → fails ≡ true → told ≡ (8, code ∷ [])
  failed_next c m f = ap reclaimed_number (answers_failed c m f)

  -- else it is done: id, length, and "a yes says whether it is above 0 and direction in".
  pub done_last : v.cancelled ≡ false → mismatched v ≡ false → fails ≡ false → told ≡ (0, v.id ∷ size ∷ flag (ltb 0 size && v.incoming) ∷ [])
  done_last c m f = ap reclaimed_number (answers_done c m f)

  -- ---- halted

  -- A cancelled request never sets halted,
  pub cancelled_keeps : v.cancelled ≡ true → (complete e v number code fails size).endpoint.flags.halted ≡ e.flags.halted
  unfolding complete leave
  cancelled_keeps c = rw c (or_false e.flags.halted)

  -- any other does with code 6 (Stall Error),
  pub stall_halts : v.cancelled ≡ false → code ≡ 6 → (complete e v number code fails size).endpoint.flags.halted ≡ true
  unfolding complete leave
  stall_halts c stall = rw (c, eq-eqb code 6 stall) (or_true e.flags.halted)

  -- and with no other code.
  pub others_keep : (code ≡ 6 → ⊥) → (complete e v number code fails size).endpoint.flags.halted ≡ e.flags.halted
  unfolding complete leave
  others_keep other = rw (ne_eqb code 6 other) (and_false e.flags.halted (not v.cancelled))

-- What is done is this request's completion: id, length, and "whether it is above 0 and direction in".
done_is : (which : ℕ) (v : Record) (number code size : ℕ) (c : Completion) → complete_answer which v number code size ≡ Ok (answer.Done c) → c ≡ completion v number size
done_is which v number code size c =
    picked (λ (x : Result Reclaimed Refusal). x ≡ Ok (answer.Done c) → c ≡ completion v number size) (eqb which 7) _ _ (λ t d. absurd (let z : ◌≡◌ {A = ℕ} 0 1 = cc in omega arith))
    (λ t. picked (λ (x : Result Reclaimed Refusal). x ≡ Ok (answer.Done c) → c ≡ completion v number size) (eqb which 9) _ _ (λ u d. absurd (let z : ◌≡◌ {A = ℕ} 0 1 = cc in omega arith))
    (λ u. picked (λ (x : Result Reclaimed Refusal). x ≡ Ok (answer.Done c) → c ≡ completion v number size) (eqb which 8) _ _
    (λ w d. absurd (let z : ◌≡◌ {A = ℕ} 0 1 = cc in omega arith)) (λ w d. cc)))

module _ (e : Endpoint) (v : Record) (number : ℕ) where
  pub done_reports : (code : ℕ) (fails : Bool) (size : ℕ) (c : Completion) → (complete e v number code fails size).answer ≡ Ok (answer.Done c) → c ≡ completion v number size
  unfolding complete
  done_reports code fails size c d = done_is (first (complete_tests v fails)) v number code size c d

  -- The length reported is the completion's size.
  pub done_size : (code : ℕ) (fails : Bool) (size : ℕ) (c : Completion) → (complete e v number code fails size).answer ≡ Ok (answer.Done c) → c.length ≡ size
  done_size code fails size c d = ap (λ (x : Completion). x.length) (done_reports code fails size c d)

  pub never_done : (c : Completion) → ◌≡◌ {A = Result Reclaimed Refusal} (Ok answer.Nothing) (Ok (answer.Done c)) → ⊥
  never_done c d = let z : ◌≡◌ {A = ℕ} 0 1 = cc in omega arith

  -- ---- bulk and interrupt

  bulk_by_lem : (f : Option Words) (c : Completion) → (bulk_by f e v number).answer ≡ Ok (answer.Done c) → c.length ≤ v.length
  bulk_by_lem None c d = absurd (never_done c d)
  bulk_by_lem (Some w) c d = omega (arith, done_size (code_of w) (not (accepted (code_of w))) (moved_bytes v.length (remaining_of w)) c d)

  -- A length that is reported never exceeds the length asked for.
  pub bulk_length : (finished : List ℕ) (c : Completion) → (reclaim_bulk e finished v number).answer ≡ Ok (answer.Done c) → c.length ≤ v.length
  unfolding reclaim_bulk
  bulk_length finished c d = bulk_by_lem (finished_at finished v.place) c d

  -- A refused code is answered with 8 and that code.
  pub bulk_refused : (finished : List ℕ) (w : Words) → finished_at finished v.place ≡ Some w → accepted (code_of w) ≡ false
      → v.cancelled ≡ false → mismatched v ≡ false → reclaimed_number (reclaim_bulk e finished v number).answer ≡ (8, code_of w ∷ [])
  unfolding reclaim_bulk
  bulk_refused finished w here refuses c m =
      rw here
      (failed_next e v number (code_of w) (not (accepted (code_of w))) (moved_bytes v.length (remaining_of w)) c m (rw refuses))

  -- ---- control

  recorded_length_lem : (recorded : ℕ) → recorded ≤ v.length + 1 → recorded_length v recorded ≤ v.length
  recorded_length_lem recorded r = picked (λ (n : ℕ). n ≤ v.length) (eqb recorded 0) v.length (recorded - 1) (λ t. omega arith) (λ t. omega arith)

  status_by_lem : (f : Option Words) (recorded : ℕ) → recorded ≤ v.length + 1 → (c : Completion) → (status_by f e v number recorded).answer ≡ Ok (answer.Done c) → c.length ≤ v.length
  status_by_lem None recorded r c d = absurd (never_done c d)
  status_by_lem (Some w) recorded r c d =
      omega (arith, recorded_length_lem recorded r, done_size (code_of w) (not (accepted (code_of w))) (recorded_length v recorded) c d)

  stage_by_lem : (f : Option Words) (more : After Reclaimed) (c : Completion) → (more.answer ≡ Ok (answer.Done c) → c.length ≤ v.length)
      → (after_stage (stage_by f e v number) more).answer ≡ Ok (answer.Done c) → c.length ≤ v.length
  stage_by_lem None more c m = m
  stage_by_lem (Some w) more c m =
      picked (λ (s : Seen). (after_stage s more).answer ≡ Ok (answer.Done c) → c.length ≤ v.length) (accepted (code_of w)) onward (ends (complete e v number (code_of w) true 0))
      (λ t. m) (λ t d. omega (arith, done_size (code_of w) true 0 c d))

  pub control_length : (finished records : List ℕ) → Measured v → (c : Completion)
      → (reclaim_control e finished records v number).0.answer ≡ Ok (answer.Done c) → c.length ≤ v.length
  unfolding reclaim_control
  control_length finished records r c =
      let seen = data_seen e finished v in
      let status = finished_at finished (status_place e v) in
      let last = status_by status e v number (recorded_by seen v) in
      stage_by_lem (finished_at finished v.place) (after_stage (stage_by seen e v number) last) c
      (stage_by_lem seen last c (status_by_lem status (recorded_by seen v) (recorded_by_lem seen v r) c))

-- What is recorded stays at most one above the length: the record's own word is set to such a number, or nothing is set.
pub control_keeps : (e : Endpoint) (finished records : List ℕ) (number : ℕ) → number < record_count → length records ≡ records_size
    → Measured (record_at records number) → Measured (record_at (reclaim_control e finished records (record_at records number) number).1 number)
control_keeps e finished records number l long m = (control_own number records l long e finished).measured m

-- ---- ISO: "The total is the sum"

pub total_is_sum : (k : ℕ) (packets : List ℕ) (number : ℕ) → total k packets number ≡ sum k (λ (j : ℕ). (packet_at packets number j).actual)
unfolding total sum
total_is_sum zero packets number = refl
total_is_sum (suc k) packets number = ap (λ (n : ℕ). n + (packet_at packets number k).actual) (total_is_sum k packets number)

module _ (e : Endpoint) (v : Record) (number : ℕ) where
  -- A completion whose code is refused is never done.
  pub refused_not_done : (code size : ℕ) (c : Completion) → (complete e v number code true size).answer ≡ Ok (answer.Done c) → ⊥
  unfolding complete complete_tests
  refused_not_done code size c d =
      ⊎_elim
      (λ (t : v.cancelled ≡ true). let was = answers_cancelled e v number code true size t in let z : ◌≡◌ {A = ℕ} 0 1 = cc in omega arith)
      (λ (t : v.cancelled ≡ false).
      ⊎_elim
      (λ (u : mismatched v ≡ true). let was = answers_mismatch e v number code true size t u in let z : ◌≡◌ {A = ℕ} 0 1 = cc in omega arith)
      (λ (u : mismatched v ≡ false). let was = answers_failed e v number code true size t u refl in let z : ◌≡◌ {A = ℕ} 0 1 = cc in omega arith)
      (true_or_false (mismatched v)))
      (true_or_false v.cancelled)

  -- Nor is one whose packets differ.
  pub differs_not_done : (code : ℕ) (fails : Bool) (size : ℕ) (c : Completion) → mismatched v ≡ true
      → (complete e v number code fails size).answer ≡ Ok (answer.Done c) → ⊥
  differs_not_done code fails size c m d =
      ⊎_elim
      (λ (t : v.cancelled ≡ true). let was = answers_cancelled e v number code fails size t in let z : ◌≡◌ {A = ℕ} 0 1 = cc in omega arith)
      (λ (t : v.cancelled ≡ false). let was = answers_mismatch e v number code fails size t m in let z : ◌≡◌ {A = ℕ} 0 1 = cc in omega arith)
      (true_or_false v.cancelled)

  swept_by_lem : (s : Swept) (packets : List ℕ) (c : Completion) → (swept_answer s e v number packets).answer ≡ Ok (answer.Done c)
      → c.length ≡ sum v.count (λ (k : ℕ). (packet_at packets number k).actual)
  swept_by_lem unfinished packets c d = absurd (never_done e v number c d)
  swept_by_lem (fatal code) packets c d = absurd (refused_not_done code 0 c d)
  swept_by_lem (found code) packets c d = done_size e v number code false (total v.count packets number) c d ∙ total_is_sum v.count packets number

  -- The length that is reported is the sum of what the request's packets count, as the packet table then has them.
  pub iso_length : (finished packets : List ℕ) (c : Completion) → (reclaim_iso e finished packets v number).0.answer ≡ Ok (answer.Done c)
      → c.length ≡ sum v.count (λ (k : ℕ). (packet_at (reclaim_iso e finished packets v number).1 number k).actual)
  unfolding reclaim_iso
  iso_length finished packets c d =
      let s = sweep e.shape.slots finished v number v.count 0 packets in
      swept_by_lem s.0 s.1 c d

  -- No packet of another record changes.
  pub iso_other : (finished packets : List ℕ) → v.count ≤ packet_count → (q k : ℕ) → (q ≡ number → ⊥) → k < packet_count
      → packet_at (reclaim_iso e finished packets v number).1 q k ≡ packet_at packets q k
  iso_other finished packets few = (iso_own e finished packets v number few).others

-- ---- what a packet is worth

module _ (requested remaining : ℕ) where
  -- The codes that count move what was asked for less what remains;
  pub worth_counts : (code : ℕ) → counts code ≡ true → worth code requested remaining ≡ bytes (requested - remaining)
  unfolding worth
  worth_counts code c = rw c

  -- 28 counts what remains itself, and is subtracted from nothing;
  pub worth_28 : worth 28 requested remaining ≡ bytes remaining
  unfolding worth counts
  worth_28 = refl

  -- 27 counts 0;
  pub worth_27 : worth 27 requested remaining ≡ bytes 0
  unfolding worth counts
  worth_27 = refl

  -- and any other code is refused.
  pub worth_other : (code : ℕ) → counts code ≡ false → (code ≡ 28 → ⊥) → (code ≡ 27 → ⊥) → worth code requested remaining ≡ refused
  unfolding worth
  worth_other code c a b = rw (c, ne_eqb code 28 a, ne_eqb code 27 b)

-- Every call in any state, reached or not, forged or not, answers what document 01's rows say, number and values (`answered_is`): so its number is 0 exactly
-- where none of its tests holds, and else that of the first test that does (`answered_exact`). Assumes nothing.
use Rattle.std.specs.Prelude.{Option, Some, None, Ok}
use Rattle.trb.specs.declared.Words.{Words}
use Prim.Native.Nat.{ℕ}
use mathlib.Core.Bool.{Bool, true, false, ◌&&◌, ◌||◌}
use mathlib.Core.List.{List, [], ◌∷◌}
use mathlib.Core.Logic.{⊎_elim}
use mathlib.Core.Path.{◌≡◌, refl, sym, ap, ◌∙◌, subst}
use lib.Dec.{eqb, ltb}
use lib.ListN.{length}
use Rattle.base.specs.Fields.{flag}
use Rattle.base.specs.First.{pick, first}
use Rattle.base.proofs.Chosen.{numbered, test_at, Exact, exact, declines, first_front, first_rest}
use Rattle.base.proofs.Compare.{same_or_not}
use Rattle.base.proofs.Decide.{both, by_eqb}
use Rattle.sizes.specs.Sizes.{ring_size}
use Rattle.ids.specs.Lookup.{find_in}
use Rattle.ids.proofs.AnyLaws.{true_or_false}
use Rattle.finished.specs.Finished.{finished_at}
use Rattle.records.specs.Kinds.{kind_is, control, bulk, interrupt, isoch}
use Rattle.records.specs.States.{state_is, in_flight, stopped}
use Rattle.records.specs.Records.{record_at}
use Rattle.records.proofs.StateLaws.{eq_state, ne_state}
use Rattle.records.specs.declared.Record.{Record}
use Rattle.dock.specs.declared.Endpoint.{Endpoint}
use Rattle.dock.specs.declared.Identity.{Identity}
use Rattle.dock.specs.declared.After.{After}
use Rattle.dock.specs.declared.Reclaimed.{Reclaimed}
use Rattle.dock.specs.declared.Stored.TheVariants.{Slot, Last}
use Rattle.dock.specs.declared.Shape.{Shape}
use Rattle.dock.specs.RowOne.{next_of, is_none}
use Rattle.dock.specs.Make.{make_tests, make_no, make}
use Rattle.dock.specs.Configure.{plain_tests, plain_no}
use Rattle.dock.specs.Start.{start_tests, start_no}
use Rattle.dock.specs.NextStore.{store_tests, store_no, stored_answer, stepped, slot_stored}
use Rattle.dock.specs.Submit.{submit_tests, submit_no}
use Rattle.dock.specs.HandOver.{hand_over_tests, hand_over_no}
use Rattle.dock.specs.Worth.{accepted}
use Rattle.dock.specs.Reclaim.{mismatched, complete_tests, complete_answer, complete, nothing, code_of, bulk_by, reclaim_bulk, onward, ends, stage_by, status_by, recorded_length, recorded_by, status_place, data_seen, after_stage, reclaim_control, total, Swept, unfinished, fatal, found, sweep, swept_answer, reclaim_iso, reclaim_tests, reclaim_no, reclaim_flying, reclaim_found}
use Rattle.dock.specs.Cancel.{cancel_tests, cancel_no}
use Rattle.dock.specs.Retire.{record_tests, record_no}
use Rattle.dock.specs.Reset.{begin_tests, begin_no, end_tests, end_no}
use Rattle.dock.specs.Numbers.{Numbered, outcome_number, stored_number, submitted_number, taken_number, reclaimed_number, resetting_number, command_number, pointed_number}
use Rattle.dock.specs.Run.{State, Call, configures, starts, stores, submits, hands, reclaims, cancels, retires, begins, stops, resumes, points, answered}
use Rattle.dock.specs.Run as calls
use Rattle.dock.specs.Tests.{Ending, going, ended_by, bulk_ending, status_ending, stage_ending, swept_ending, ending_of, Came, nowhere, to_stop, to_end, came_by, came_of, came_to, came_tests, came_values, tests, if_done, said}
use Rattle.dock.proofs.RefusalLaws.{make_acts, configure_acts, stop_acts, resume_acts, pointer_acts, end_acts, start_acts, store_acts, submit_passed, hand_over_acts, cancel_acts, retire_acts, begin_clear, begin_acts, reclaim_acts}
use Rattle.dock.proofs.RefusalRequestLaws.{Named, named_found, unnamed_none}
use Rattle.dock.proofs.RefusalAnswerLaws.{refused_leaves, making_leaves}
use Rattle.dock.proofs.SubmitEndLaws.{submit_done}

-- ---- a number and its values

-- A call that has no values: 0 where it is done, and the number where it is refused.
bare : {x : Numbered} (row : ℕ) → (row ≡ 0 → x ≡ (0, [])) → ((row ≡ 0 → ⊥) → x ≡ (row, [])) → x ≡ (row, [])
bare row done refused =
    ⊎_elim (λ (z : row ≡ 0). done z ∙ ap (λ (n : ℕ). (n, [])) (sym z)) (λ (n : row ≡ 0 → ⊥). refused n) (same_or_not row 0)

-- One that has values where it is done.
valued : {x : Numbered} (row : ℕ) (values : List ℕ) → (row ≡ 0 → x ≡ (0, values)) → ((row ≡ 0 → ⊥) → x ≡ (row, [])) → x ≡ (row, if_done row values)
valued row values done refused =
    ⊎_elim
    (λ (z : row ≡ 0). done z ∙ ap (λ (n : ℕ). (n, if_done n values)) (sym z))
    (λ (n : row ≡ 0 → ⊥). refused n ∙ ap (λ (l : List ℕ). (row, l)) (sym (declines values [] n)))
    (same_or_not row 0)

-- ---- a completion: "for a completion 7, 9, 8"

-- What a request that has come to this is answered.
abbrev pub said_of : Came → Numbered
said_of c = (first (came_tests c), came_values c (first (came_tests c)))

by_tests : (a b c : Bool) (v : Record) (number code size : ℕ)
    → let row = first ((a, 7) ∷ (b, 9) ∷ (c, 8) ∷ []) in
    reclaimed_number (complete_answer row v number code size)
    ≡ (row, pick (eqb row 8) (code ∷ []) (pick (eqb row 0) (v.id ∷ size ∷ flag (ltb 0 size && v.incoming) ∷ []) []))
by_tests true b c v number code size = refl
by_tests false true c v number code size = refl
by_tests false false true v number code size = refl
by_tests false false false v number code size = refl

pub complete_said : (e : Endpoint) (v : Record) (number code : ℕ) (fails : Bool) (size : ℕ)
    → reclaimed_number (complete e v number code fails size).answer ≡ said_of (to_end v code fails size)
unfolding complete complete_tests
complete_said e v number code fails size = by_tests v.cancelled (mismatched v) fails v number code size

-- ---- a request in flight is ended as its events tell

module _ (e : Endpoint) (v : Record) (number : ℕ) where
  -- The answer and the endpoint that an ending makes.
  abbrev pub ended : Ending → After Reclaimed
  ended going = nothing e
  ended (ended_by code fails size) = complete e v number code fails size

  bulk_ends : (f : Option Words) → bulk_by f e v number ≡ ended (bulk_ending f v)
  bulk_ends None = refl
  bulk_ends (Some w) = refl

  status_ends : (f : Option Words) (recorded : ℕ) → status_by f e v number recorded ≡ ended (status_ending f (recorded_length v recorded))
  status_ends None recorded = refl
  status_ends (Some w) recorded = refl

  stage_by_lem : (b : Bool) (code : ℕ) (more : After Reclaimed) (rest : Ending) → more ≡ ended rest
      → after_stage (pick b onward (ends (complete e v number code true 0))) more ≡ ended (pick b rest (ended_by code true 0))
  stage_by_lem true code more rest q = q
  stage_by_lem false code more rest q = refl

  stage_ends : (f : Option Words) (more : After Reclaimed) (rest : Ending) → more ≡ ended rest → after_stage (stage_by f e v number) more ≡ ended (stage_ending f rest)
  stage_ends None more rest q = q
  stage_ends (Some w) more rest q = stage_by_lem (accepted (code_of w)) (code_of w) more rest q

  swept_ends : (x : Swept) (packets : List ℕ) → swept_answer x e v number packets ≡ ended (swept_ending x (total v.count packets number))
  swept_ends unfinished packets = refl
  swept_ends (fatal code) packets = refl
  swept_ends (found code) packets = refl

  by_kind : (b : Bool) (x y : After Reclaimed × List ℕ × List ℕ) (p q : Ending) → x.0 ≡ ended p → y.0 ≡ ended q → (pick b x y).0 ≡ ended (pick b p q)
  by_kind true x y p q s t = s
  by_kind false x y p q s t = t

  ended_said : (x : Ending) → reclaimed_number (ended x).answer ≡ said_of (came_by x v)
  ended_said going = refl
  ended_said (ended_by code fails size) = complete_said e v number code fails size

module _ (s : State) where
  abbrev e : Endpoint
  e = s.endpoint

  -- A reclaim of a request in flight answers as the request's events tell.
  pub flying_ends : (v : Record) (number : ℕ) → (reclaim_flying e s.finished s.records s.packets v number).0 ≡ ended e v number (ending_of s v number)
  unfolding reclaim_flying reclaim_control reclaim_iso reclaim_bulk ending_of
  flying_ends v number =
      let seen = data_seen e s.finished v in
      let status = finished_at s.finished (status_place e v) in
      let swept = sweep e.shape.slots s.finished v number v.count 0 s.packets in
      by_kind e v number (kind_is v.kind control) _ _ _ _
      (stage_ends e v number (finished_at s.finished v.place) _ _
      (stage_ends e v number seen _ _ (status_ends e v number status (recorded_by seen v))))
      (by_kind e v number (kind_is v.kind isoch) _ _ _ _ (swept_ends e v number swept.0 swept.1)
      (by_kind e v number (kind_is v.kind bulk || kind_is v.kind interrupt) _ _ _ _ (bulk_ends e v number (finished_at s.finished v.place)) refl))

  by_state : (b : Bool) (x y : After Reclaimed × List ℕ × List ℕ) (p q : Came)
      → reclaimed_number x.0.answer ≡ said_of p → reclaimed_number y.0.answer ≡ said_of q
      → reclaimed_number (pick b x y).0.answer ≡ said_of (pick b p q)
  by_state true x y p q t u = t
  by_state false x y p q t u = u

  came_said : (f : Option ℕ) → reclaimed_number (reclaim_found f e s.finished s.records s.packets).0.answer ≡ said_of (came_of s f)
  came_said None = refl
  came_said (Some r) =
      let v = record_at s.records r in
      by_state (state_is v.state stopped) _ _ _ _ refl
      (by_state (state_is v.state in_flight) _ _ _ _
      (ap (λ (x : After Reclaimed). reclaimed_number x.answer) (flying_ends v r) ∙ ended_said e v r (ending_of s v r))
      refl)

  -- A reclaim that is refused, with 1 or 12, has no values.
  none_beside : (a b c : Bool) (x : Came) → let row : ℕ = pick a 1 (pick b 1 (pick c 12 0)) in (row ≡ 0 → ⊥) → came_values x row ≡ []
  none_beside a b c nowhere d = refl
  none_beside a b c to_stop d = refl
  none_beside true b c (to_end v code fails size) d = refl
  none_beside false true c (to_end v code fails size) d = refl
  none_beside false false true (to_end v code fails size) d = refl
  none_beside false false false (to_end v code fails size) d = absurd (d refl)

  module _ (id : ℕ) where
    abbrev first_tests : List (Bool × ℕ)
    first_tests = reclaim_tests e (length s.finished) s.records (length s.packets) id

    abbrev refused_no : ℕ
    refused_no = reclaim_no e (length s.finished) s.records (length s.packets) id

    no_values : (refused_no ≡ 0 → ⊥) → came_values (came_to s id) refused_no ≡ []
    unfolding reclaim_no reclaim_tests
    no_values d = none_beside (test_at first_tests 0) (test_at first_tests 1) (test_at first_tests 2) (came_to s id) d

    all_numbered : numbered first_tests ≡ true
    unfolding reclaim_tests
    all_numbered = refl

    -- A reclaim that is not refused is answered by what its id has come to.
    pub reclaim_said : refused_no ≡ 0 → answered s (reclaims id) ≡ said_of (came_to s id)
    unfolding came_to
    reclaim_said z =
        ap (λ (x : After Reclaimed × List ℕ × List ℕ). reclaimed_number x.0.answer) (reclaim_acts e s.finished s.records s.packets id z)
        ∙ came_said (find_in s.records e.account.occupancy id)

    reclaim_done : refused_no ≡ 0 → answered s (reclaims id) ≡ said s (reclaims id)
    unfolding reclaim_no
    reclaim_done z =
        reclaim_said z
        ∙ ap (λ (n : ℕ). (n, came_values (came_to s id) n)) (sym (first_rest first_tests (came_tests (came_to s id)) all_numbered z))

    reclaim_refused : (refused_no ≡ 0 → ⊥) → answered s (reclaims id) ≡ said s (reclaims id)
    unfolding reclaim_no
    reclaim_refused d =
        (refused_leaves s (reclaims id) d).0
        ∙ ap (λ (l : List ℕ). (refused_no, l)) (sym (no_values d))
        ∙ ap (λ (n : ℕ). (n, came_values (came_to s id) n)) (sym (first_front first_tests (came_tests (came_to s id)) d))

    reclaim_is : answered s (reclaims id) ≡ said s (reclaims id)
    reclaim_is = ⊎_elim (λ (z : refused_no ≡ 0). reclaim_done z) (λ (d : refused_no ≡ 0 → ⊥). reclaim_refused d) (same_or_not refused_no 0)

-- ---- what an id has come to, by the record that it names

module _ (s : State) (id : ℕ) where
  abbrev Names : ℕ → Type 0
  Names r = Named s.records s.endpoint.account.occupancy id r

  -- An unknown one: no held record has it.
  pub came_unknown : ((r : ℕ) → Names r → ⊥) → came_to s id ≡ nowhere
  unfolding came_to
  came_unknown none = ap (came_of s) (unnamed_none s.records s.endpoint.account.occupancy id none)

  module _ (r : ℕ) (names : Names r) where
    abbrev its : Record
    its = record_at s.records r

    at_record : came_to s id ≡ came_of s (Some r)
    unfolding came_to
    at_record = ap (came_of s) (named_found s.records s.endpoint.account.occupancy id r names)

    -- A stopped one;
    pub came_stopped : its.state ≡ stopped → came_to s id ≡ to_stop
    came_stopped is = at_record ∙ rw (eq_state its.state stopped is)

    -- one in flight, which its events end or do not;
    pub came_flying : its.state ≡ in_flight → came_to s id ≡ came_by (ending_of s its r) its
    came_flying flies = at_record ∙ rw flies

    -- and one that is neither.
    pub came_neither : (its.state ≡ stopped → ⊥) → (its.state ≡ in_flight → ⊥) → came_to s id ≡ nowhere
    came_neither moves lands = at_record ∙ rw (ne_state its.state stopped moves, ne_state its.state in_flight lands)

-- ---- every call

-- A store: its slot, and the last also the id and the doorbell word.
stored_said : (b : Bool) (slot id bell : ℕ) → stored_number (pick b (Ok (Last slot id bell)) (Ok (Slot slot))) ≡ (0, slot ∷ pick b (id ∷ bell ∷ []) [])
stored_said true slot id bell = refl
stored_said false slot id bell = refl

pub answered_is : (s : State) (c : Call) → answered s c ≡ said s c
unfolding plain_no start_no store_no submit_no hand_over_no cancel_no record_no begin_no end_no stored_answer
answered_is s (configures packet burst interval) =
    bare (plain_no s.endpoint) (λ z. ap (λ x. outcome_number x.answer) (configure_acts s.endpoint packet burst interval z))
    (λ d. (refused_leaves s (configures packet burst interval) d).0)
answered_is s (starts request lengths) =
    bare (start_no s.endpoint s.records (length s.packets) request lengths)
    (λ z. ap (λ x. outcome_number x.0.answer) (start_acts s.endpoint s.records s.packets request lengths z))
    (λ d. (refused_leaves s (starts request lengths) d).0)
answered_is s stores =
    let e = s.endpoint in
    let v = record_at s.records e.work.number in
    let n = next_of e v in
    valued (store_no e (length s.ring) (length s.finished) s.records (length s.packets)) _
    (λ z.
    ap (λ x. stored_number x.0.answer) (store_acts e s.ring s.finished s.records s.packets z)
    ∙ stored_said (is_none (next_of (stepped n e v s.packets) v)) (slot_stored n e) v.id e.who.dci)
    (λ d. (refused_leaves s stores d).0)
answered_is s (submits request lengths) =
    let e = s.endpoint in
    let sizes = both (by_eqb (length s.ring) (ring_size e.shape.slots)) (by_eqb (length s.finished) (ring_size e.shape.slots)) in
    valued (submit_no e (length s.ring) (length s.finished) s.records (length s.packets) request lengths) _
    (λ z.
    let passed = submit_passed e s.ring s.finished s.records s.packets request lengths z in
    let fit = sizes.so passed.0 in
    ap submitted_number (submit_done e s.ring s.finished s.records s.packets request lengths passed.1 fit.0 fit.1).0)
    (λ d. (refused_leaves s (submits request lengths) d).0)
answered_is s (hands event) =
    valued (hand_over_no s.endpoint (length s.finished) event) _
    (λ z. ap (λ x. taken_number x.0) (hand_over_acts s.endpoint s.finished event z))
    (λ d. (refused_leaves s (hands event) d).0)
answered_is s (reclaims id) = reclaim_is s id
answered_is s (cancels id) =
    bare (cancel_no s.endpoint s.records id) (λ z. ap (λ x. outcome_number x.0) (cancel_acts s.endpoint s.records id z))
    (λ d. (refused_leaves s (cancels id) d).0)
answered_is s retires =
    bare (record_no s.endpoint s.records) (λ z. ap (λ x. outcome_number x.0.answer) (retire_acts s.endpoint s.records z))
    (λ d. (refused_leaves s retires d).0)
answered_is s begins =
    let e = s.endpoint in
    valued (begin_no e s.records) _
    (λ z.
    ⊎_elim
    (λ (on : e.flags.halted ≡ true). ap (λ x. resetting_number x.answer) (begin_acts e s.records z on) ∙ rw on)
    (λ (off : e.flags.halted ≡ false). ap (λ x. resetting_number x.answer) (begin_clear e s.records z off) ∙ rw off)
    (true_or_false e.flags.halted))
    (λ d. (refused_leaves s begins d).0)
answered_is s (calls.ends worked) =
    bare (end_no s.endpoint) (λ z. ap (λ x. outcome_number x.answer) (end_acts s.endpoint worked z)) (λ d. (refused_leaves s (calls.ends worked) d).0)
answered_is s stops =
    valued (plain_no s.endpoint) _ (λ z. ap command_number (stop_acts s.endpoint z)) (λ d. (refused_leaves s stops d).0)
answered_is s resumes =
    valued (plain_no s.endpoint) _ (λ z. ap command_number (resume_acts s.endpoint z)) (λ d. (refused_leaves s resumes d).0)
answered_is s points =
    valued (plain_no s.endpoint) _ (λ z. ap pointed_number (pointer_acts s.endpoint z)) (λ d. (refused_leaves s points d).0)

-- ---- exactness

came_numbered : (x : Came) → numbered (came_tests x) ≡ true
unfolding complete_tests
came_numbered nowhere = refl
came_numbered to_stop = refl
came_numbered (to_end v code fails size) = refl

tests_numbered : (s : State) (c : Call) → numbered (tests s c) ≡ true
unfolding plain_tests start_tests store_tests submit_tests hand_over_tests reclaim_tests cancel_tests record_tests begin_tests end_tests
tests_numbered s (configures packet burst interval) = refl
tests_numbered s (starts request lengths) = refl
tests_numbered s stores = refl
tests_numbered s (submits request lengths) = refl
tests_numbered s (hands event) = refl
tests_numbered s (reclaims id) = came_numbered (came_to s id)
tests_numbered s (cancels id) = refl
tests_numbered s retires = refl
tests_numbered s begins = refl
tests_numbered s (calls.ends worked) = refl
tests_numbered s stops = refl
tests_numbered s resumes = refl
tests_numbered s points = refl

pub answered_exact : (s : State) (c : Call) → Exact (tests s c) (answered s c).0
answered_exact s c =
    subst (Exact (tests s c)) (sym (ap (λ (x : Numbered). x.0) (answered_is s c))) (exact (tests s c) (tests_numbered s c))

-- Making has no state before it.
module _ (ring finished records packets : List ℕ) (shape : Shape) (who : Identity) where
  abbrev making_tests : List (Bool × ℕ)
  making_tests = make_tests (length ring) (length finished) (length records) (length packets) shape who

  pub making_is : outcome_number (make ring finished records packets shape who).0.answer ≡ (first making_tests, [])
  unfolding make_no
  making_is =
      bare (make_no (length ring) (length finished) (length records) (length packets) shape who)
      (λ z. ap (λ x. outcome_number x.0.answer) (make_acts ring finished records packets shape who z))
      (λ d. (making_leaves ring finished records packets shape who d).0)

  making_numbered : numbered making_tests ≡ true
  unfolding make_tests
  making_numbered = refl

  pub making_exact : Exact making_tests (outcome_number (make ring finished records packets shape who).0.answer).0
  making_exact = subst (Exact making_tests) (sym (ap (λ (x : Numbered). x.0) making_is)) (exact making_tests making_numbered)

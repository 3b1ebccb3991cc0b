-- Every call's refusals: its number is 0 exactly where none of its tests holds and else that of the first test that does, in document 01's order; and
-- a call whose number is not 0 answers that number and leaves the endpoint and every table as they were. Assumes nothing.
use Rattle.std.specs.Prelude.{Err, Ok, None, Some}
use Prim.Native.Nat.{ℕ, max}
use mathlib.Core.Bool.{Bool, true, false, ◌&&◌, not}
use mathlib.Core.List.{List}
use mathlib.Core.Logic.{⊎_elim}
use mathlib.Core.Path.{◌≡◌, refl, sym, ◌∙◌}
use native.Mathlib.Omega.{arith}
use lib.Dec.{eqb}
use lib.ListN.{length}
use Rattle.base.specs.First.{pick}
use Rattle.base.proofs.Chosen.{Exact, exact, acts, declines}
use Rattle.trb.specs.declared.Words.{Words}
use Rattle.sizes.specs.Sizes.{ring_size, record_count}
use Rattle.ids.specs.Lookup.{find_in}
use Rattle.ids.proofs.AnyLaws.{true_or_false}
use Rattle.ring.specs.Ring.{enqueue_pointer}
use Rattle.finished.specs.Finished.{fill_place}
use Rattle.records.specs.Records.{record_at}
use Rattle.dock.specs.Refusals.{refusal, done}
use Rattle.dock.specs.declared.Endpoint.{Endpoint}
use Rattle.dock.specs.declared.Identity.{Identity}
use Rattle.dock.specs.declared.Request.{Request}
use Rattle.dock.specs.declared.Shape.{Shape}
use Rattle.dock.specs.Cancel.{cancel_tests, cancel_no, cancel, marked}
use Rattle.dock.specs.Commands.{reset_words, stop_words, dequeue_words, stop, resume, pointer}
use Rattle.dock.specs.Configure.{plain_tests, plain_no, configure}
use Rattle.dock.specs.RowOne.{next_of}
use Rattle.dock.specs.HandOver.{hand_over_tests, hand_over_no, hand_over, slot_number, slot_for}
use Rattle.dock.specs.Make.{make_tests, make_no, make, zeros}
use Rattle.dock.specs.Reclaim.{reclaim_tests, reclaim_no, reclaim, reclaim_found}
use Rattle.dock.specs.Reset.{begin_tests, begin_no, begin_reset, end_tests, end_no, end_reset}
use Rattle.dock.specs.Retire.{record_tests, record_no, retired_below, retire}
use Rattle.dock.specs.Start.{start_tests, start_no, start, started_endpoint, started_records, record_taken, write_packets}
use Rattle.dock.specs.State.{fresh, blank, with_periodic, with_flags, with_account}
use Rattle.dock.specs.NextStore.{store_tests, store_no, store, stored_answer, stepped, settled, ring_stored, finished_stored}
use Rattle.dock.specs.Submit.{submit_tests, submit_no, submit, finish, most_stores, joined}

pick_true : {A : Type 0} {b : Bool} (x y : A) → b ≡ true → pick b x y ≡ x
pick_true x y q = rw q

pick_false : {A : Type 0} {b : Bool} (x y : A) → b ≡ false → pick b x y ≡ y
pick_false x y q = rw q

-- ---- making

module _ (ring finished records packets : List ℕ) (shape : Shape) (who : Identity) where
  abbrev number_of_make : ℕ
  number_of_make = make_no (length ring) (length finished) (length records) (length packets) shape who

  pub make_exact : Exact (make_tests (length ring) (length finished) (length records) (length packets) shape who) number_of_make
  unfolding make_tests make_no
  make_exact = exact (make_tests (length ring) (length finished) (length records) (length packets) shape who) refl

  -- A making that is refused leaves the tables, and gives back no endpoint.
  pub make_refuses : (number_of_make ≡ 0 → ⊥)
      → make ring finished records packets shape who
      ≡ (record { answer = Err (refusal number_of_make); endpoint = blank }, ring, finished, records, packets)
  unfolding make
  make_refuses refused = declines _ _ refused

  pub make_acts : number_of_make ≡ 0
      → make ring finished records packets shape who
      ≡ (record { answer = done; endpoint = fresh shape who }, zeros ring, zeros finished, zeros records, zeros packets)
  unfolding make
  make_acts passed = acts _ _ passed

-- ---- calls that are lent no table: configuring, stop, resume, the pointer, the end of a reset

module _ (e : Endpoint) where
  pub plain_exact : Exact (plain_tests e) (plain_no e)
  unfolding plain_tests plain_no
  plain_exact = exact (plain_tests e) refl

  pub configure_refuses : (packet burst interval : ℕ) → (plain_no e ≡ 0 → ⊥)
      → configure e packet burst interval ≡ record { answer = Err (refusal (plain_no e)); endpoint = e }
  unfolding configure
  configure_refuses packet burst interval refused = declines _ _ refused

  pub configure_acts : (packet burst interval : ℕ) → plain_no e ≡ 0
      → configure e packet burst interval
      ≡ record {
        answer = done;
        endpoint = with_periodic e (record { packet = packet; burst = burst; interval = max 1 interval; frame = e.periodic.frame });
      }
  unfolding configure
  configure_acts packet burst interval passed = acts _ _ passed

  pub stop_refuses : (plain_no e ≡ 0 → ⊥) → stop e ≡ Err (refusal (plain_no e))
  unfolding stop
  stop_refuses refused = declines _ _ refused

  pub stop_acts : plain_no e ≡ 0 → stop e ≡ Ok (stop_words e)
  unfolding stop
  stop_acts passed = acts _ _ passed

  pub resume_refuses : (plain_no e ≡ 0 → ⊥) → resume e ≡ Err (refusal (plain_no e))
  unfolding resume
  resume_refuses refused = declines _ _ refused

  pub resume_acts : plain_no e ≡ 0 → resume e ≡ Ok (dequeue_words e)
  unfolding resume
  resume_acts passed = acts _ _ passed

  pub pointer_refuses : (plain_no e ≡ 0 → ⊥) → pointer e ≡ Err (refusal (plain_no e))
  unfolding pointer
  pointer_refuses refused = declines _ _ refused

  pub pointer_acts : plain_no e ≡ 0 → pointer e ≡ Ok (enqueue_pointer e.shape.base e.at)
  unfolding pointer
  pointer_acts passed = acts _ _ passed

  pub end_exact : Exact (end_tests e) (end_no e)
  unfolding end_tests end_no
  end_exact = exact (end_tests e) refl

  pub end_refuses : (worked : Bool) → (end_no e ≡ 0 → ⊥) → end_reset e worked ≡ record { answer = Err (refusal (end_no e)); endpoint = e }
  unfolding end_reset
  end_refuses worked refused = declines _ _ refused

  pub end_acts : (worked : Bool) → end_no e ≡ 0
      → end_reset e worked
      ≡ record { answer = done; endpoint = with_flags e (record { halted = e.flags.halted && not worked; reset = false }) }
  unfolding end_reset
  end_acts worked passed = acts _ _ passed

-- ---- the start of a submission

module _ (e : Endpoint) (records packets : List ℕ) (request : Request) (lengths : List ℕ) where
  abbrev number_of_start : ℕ
  number_of_start = start_no e records (length packets) request lengths

  pub start_exact : Exact (start_tests e records (length packets) request lengths) number_of_start
  unfolding start_tests start_no
  start_exact = exact (start_tests e records (length packets) request lengths) refl

  pub start_refuses : (number_of_start ≡ 0 → ⊥)
      → start e records packets request lengths ≡ (record { answer = Err (refusal number_of_start); endpoint = e }, records, packets)
  unfolding start
  start_refuses refused = declines _ _ refused

  pub start_acts : number_of_start ≡ 0
      → start e records packets request lengths
      ≡ (
        record { answer = done; endpoint = started_endpoint e records request lengths },
        started_records e records request lengths,
        write_packets packets (record_taken e) request.what lengths,
      )
  unfolding start
  start_acts passed = acts _ _ passed

-- ---- a store

module _ (e : Endpoint) (ring finished records packets : List ℕ) where
  abbrev number_of_store : ℕ
  number_of_store = store_no e (length ring) (length finished) records (length packets)

  pub store_exact : Exact (store_tests e (length ring) (length finished) records (length packets)) number_of_store
  unfolding store_tests store_no
  store_exact = exact (store_tests e (length ring) (length finished) records (length packets)) refl

  pub store_refuses : (number_of_store ≡ 0 → ⊥)
      → store e ring finished records packets ≡ (record { answer = Err (refusal number_of_store); endpoint = e }, ring, finished)
  unfolding store
  store_refuses refused = declines _ _ refused

  pub store_acts : number_of_store ≡ 0
      → let v = record_at records e.work.number in
      let n = next_of e v in
      let after = stepped n e v packets in
      store e ring finished records packets
      ≡ (
        record { answer = stored_answer n e after v; endpoint = settled after v },
        ring_stored n e v packets ring,
        finished_stored n e finished,
      )
  unfolding store
  store_acts passed = acts _ _ passed

-- ---- the whole submission

module _ (e : Endpoint) (ring finished records packets : List ℕ) (request : Request) (lengths : List ℕ) where
  abbrev rings_fit : Bool
  rings_fit = eqb (length ring) (ring_size e.shape.slots) && eqb (length finished) (ring_size e.shape.slots)

  abbrev number_of_submit : ℕ
  number_of_submit = submit_no e (length ring) (length finished) records (length packets) request lengths

  pub submit_exact : Exact (submit_tests e (length ring) (length finished) records (length packets) request lengths) number_of_submit
  unfolding submit_tests submit_no start_tests
  submit_exact = exact (submit_tests e (length ring) (length finished) records (length packets) request lengths) refl

  -- Where the ring and the finished table have their sizes it is the start's number, and else 1.
  pub submit_as_start : rings_fit ≡ true → number_of_submit ≡ start_no e records (length packets) request lengths
  unfolding submit_tests submit_no start_no
  submit_as_start fit = rw fit

  pub submit_misfits : rings_fit ≡ false → number_of_submit ≡ 1
  unfolding submit_tests submit_no
  submit_misfits off = rw off

  -- A number of 0 has both: the sizes, and a start that is admitted.
  pub submit_passed : number_of_submit ≡ 0 → (rings_fit ≡ true) × (start_no e records (length packets) request lengths ≡ 0)
  submit_passed passed =
      ⊎_elim
      (λ (fit : rings_fit ≡ true). (fit, sym (submit_as_start fit) ∙ passed))
      (λ (off : rings_fit ≡ false). absurd (let one = submit_misfits off in omega arith))
      (true_or_false rings_fit)

  -- Any other is answered, and leaves everything.
  pub submit_refuses : (number_of_submit ≡ 0 → ⊥)
      → submit e ring finished records packets request lengths
      ≡ (record { answer = Err (refusal number_of_submit); endpoint = e }, ring, finished, records, packets)
  unfolding submit
  submit_refuses refused = declines _ _ refused

  -- Where it is admitted, the stores follow the start, on the endpoint and the tables that it left.
  pub submit_acts : number_of_submit ≡ 0
      → let written = started_records e records request lengths in
      let asked = write_packets packets (record_taken e) request.what lengths in
      submit e ring finished records packets request lengths
      ≡ joined (finish (most_stores request (length lengths)) (started_endpoint e records request lengths) ring finished written asked) written asked
  unfolding submit
  submit_acts passed = acts _ _ passed ∙ rw (start_acts e records packets request lengths (submit_passed passed).1)

-- ---- an event handed over

module _ (e : Endpoint) (finished : List ℕ) (w : Words) where
  pub hand_over_exact : Exact (hand_over_tests e (length finished) w) (hand_over_no e (length finished) w)
  unfolding hand_over_tests hand_over_no
  hand_over_exact = exact (hand_over_tests e (length finished) w) refl

  pub hand_over_refuses : (hand_over_no e (length finished) w ≡ 0 → ⊥)
      → hand_over e finished w ≡ (Err (refusal (hand_over_no e (length finished) w)), finished)
  unfolding hand_over
  hand_over_refuses refused = declines _ _ refused

  pub hand_over_acts : hand_over_no e (length finished) w ≡ 0
      → hand_over e finished w ≡ (Ok (slot_number (slot_for e w)), fill_place finished (slot_number (slot_for e w)) w)
  unfolding hand_over
  hand_over_acts passed = acts _ _ passed

-- ---- calls on the records: cancel, retire, the begin of a reset

module _ (e : Endpoint) (records : List ℕ) where
  pub cancel_exact : (id : ℕ) → Exact (cancel_tests e records id) (cancel_no e records id)
  unfolding cancel_tests cancel_no
  cancel_exact id = exact (cancel_tests e records id) refl

  pub cancel_refuses : (id : ℕ) → (cancel_no e records id ≡ 0 → ⊥)
      → cancel e records id ≡ (Err (refusal (cancel_no e records id)), records)
  unfolding cancel
  cancel_refuses id refused = declines _ _ refused

  pub cancel_acts : (id : ℕ) → cancel_no e records id ≡ 0
      → cancel e records id ≡ (done, marked records (find_in records e.account.occupancy id))
  unfolding cancel
  cancel_acts id passed = acts _ _ passed

  pub retire_exact : Exact (record_tests e records) (record_no e records)
  unfolding record_tests record_no
  retire_exact = exact (record_tests e records) refl

  pub retire_refuses : (record_no e records ≡ 0 → ⊥)
      → retire e records ≡ (record { answer = Err (refusal (record_no e records)); endpoint = e }, records)
  unfolding retire
  retire_refuses refused = declines _ _ refused

  pub retire_acts : record_no e records ≡ 0
      → let s = retired_below record_count e.account.occupancy e.account.outstanding records in
      retire e records
      ≡ (
        record {
          answer = done;
          endpoint = with_account e (record { next = e.account.next; occupancy = e.account.occupancy; outstanding = s.0 });
        },
        s.1,
      )
  unfolding retire
  retire_acts passed = acts _ _ passed

  pub begin_exact : Exact (begin_tests e records) (begin_no e records)
  unfolding begin_tests begin_no
  begin_exact = exact (begin_tests e records) refl

  pub begin_refuses : (begin_no e records ≡ 0 → ⊥)
      → begin_reset e records ≡ record { answer = Err (refusal (begin_no e records)); endpoint = e }
  unfolding begin_reset
  begin_refuses refused = declines _ _ refused

  -- An endpoint that is not halted has nothing to reset; a halted one is given two commands, and a reset is under way.
  pub begin_clear : begin_no e records ≡ 0 → e.flags.halted ≡ false → begin_reset e records ≡ record { answer = Ok None; endpoint = e }
  unfolding begin_reset
  begin_clear passed off = acts _ _ passed ∙ pick_false _ _ off

  pub begin_acts : begin_no e records ≡ 0 → e.flags.halted ≡ true
      → begin_reset e records
      ≡ record {
        answer = Ok (Some (record { reset = (reset_words e); dequeue = (dequeue_words e) }));
        endpoint = with_flags e (record { halted = true; reset = true });
      }
  unfolding begin_reset
  begin_acts passed on = acts _ _ passed ∙ pick_true _ _ on

-- ---- a reclaim

module _ (e : Endpoint) (finished records packets : List ℕ) (id : ℕ) where
  abbrev number_of_reclaim : ℕ
  number_of_reclaim = reclaim_no e (length finished) records (length packets) id

  pub reclaim_exact : Exact (reclaim_tests e (length finished) records (length packets) id) number_of_reclaim
  unfolding reclaim_tests reclaim_no
  reclaim_exact = exact (reclaim_tests e (length finished) records (length packets) id) refl

  pub reclaim_refuses : (number_of_reclaim ≡ 0 → ⊥)
      → reclaim e finished records packets id
      ≡ (record { answer = Err (refusal number_of_reclaim); endpoint = e }, records, packets)
  unfolding reclaim
  reclaim_refuses refused = declines _ _ refused

  pub reclaim_acts : number_of_reclaim ≡ 0
      → reclaim e finished records packets id ≡ reclaim_found (find_in records e.account.occupancy id) e finished records packets
  unfolding reclaim
  reclaim_acts passed = acts _ _ passed

-- Every call that changes the endpoint keeps its fields as narrow as their types, where its arguments are; and a making that is done leaves such an
-- endpoint. So what an exported call saves are words of an endpoint. Assumes nothing.
use Prim.Native.Nat.{ℕ, ◌<◌, ◌^◌}
use mathlib.Core.Bool.{Bool, true, false}
use mathlib.Core.List.{List, []}
use mathlib.Core.Logic.{⊎_elim}
use mathlib.Core.Path.{◌≡◌, refl}
use native.Mathlib.Omega.{arith}
use borrow.Author.Tests.{not-false}
use lib.Dec.{eqb}
use lib.ListN.{length}
use Rattle.base.proofs.Chosen.{quiet}
use Rattle.base.proofs.Compare.{same_or_not}
use Rattle.records.specs.Kinds.{kind_is, isoch}
use Rattle.records.specs.declared.Record.{Record}
use Rattle.dock.specs.declared.Endpoint.{Endpoint}
use Rattle.dock.specs.declared.Identity.{Identity}
use Rattle.dock.specs.declared.Request.{Request}
use Rattle.dock.specs.declared.Shape.{Shape}
use Rattle.dock.specs.Configure.{plain_no, configure}
use Rattle.dock.specs.Limits.{limits_hold}
use Rattle.dock.specs.Make.{make_tests, make_no, make}
use Rattle.dock.specs.NextStore.{frame_on, stepped, settled, store_no, store}
use Rattle.dock.specs.Reclaim.{leave, reclaim}
use Rattle.dock.specs.Reset.{begin_no, begin_reset, end_no, end_reset}
use Rattle.dock.specs.Retire.{record_no, retire}
use Rattle.dock.specs.RowOne.{Next, the_link, the_trb, the_first, none, next_of, is_none}
use Rattle.dock.specs.Run.{State, state_of}
use Rattle.dock.specs.Start.{start_no, start, started_endpoint}
use Rattle.dock.specs.State.{idle, with_store}
use Rattle.dock.specs.Submit.{submit}
use Rattle.dock.specs.Trbs.{frame_after}
use Rattle.dock.proofs.ReachedSoundLaws.{Untouched, Looked, reclaim_result}
use Rattle.dock.proofs.RefusalLaws.{make_acts, configure_acts, configure_refuses, start_acts, start_refuses, store_acts, store_refuses, retire_acts, retire_refuses, begin_refuses, begin_clear, begin_acts, end_refuses, end_acts}
use Rattle.dock.proofs.RefusalTestLaws.{by_limits}
use Rattle.dock.proofs.RetireLaws.{picked}
use Rattle.dock.proofs.SubmitLaws.{submit_keeps}
use Rattle.loaded.specs.State.{Narrow}
use Rattle.saved.proofs.LeavesLaws.{off_or_on}

-- What keeps identity and periodic numbers keeps them narrow.
alike : (e after : Endpoint) → after.who ≡ e.who → after.periodic ≡ e.periodic → Narrow e → Narrow after
alike e after who periodic n = record {
  slot = rw who n.slot;
  dci = rw who n.dci;
  packet = rw periodic n.packet;
  burst = rw periodic n.burst;
  interval = rw periodic n.interval;
  frame = rw periodic n.frame;
}

-- A call that acts where its number is 0, and is refused else.
either : {P : Type 0} (number : ℕ) → (number ≡ 0 → P) → ((number ≡ 0 → ⊥) → P) → P
either number acts refuses = ⊎_elim acts refuses (same_or_not number 0)

-- A making that is done: slot id and dci are within the limits.
pub make_narrow : (ring finished records packets : List ℕ) (shape : Shape) (who : Identity)
    → make_no (length ring) (length finished) (length records) (length packets) shape who ≡ 0
    → Narrow (make ring finished records packets shape who).0.endpoint
unfolding make_no make_tests
make_narrow ring finished records packets shape who z =
    let tests = make_tests (length ring) (length finished) (length records) (length packets) shape who in
    let l = (by_limits shape who).so (not-false (limits_hold shape who) (quiet tests 0 refl z (omega arith))) in
    rw (make_acts ring finished records packets shape who z)
    (record {
      slot = omega arith;
      dci = omega arith;
      packet = omega arith;
      burst = omega arith;
      interval = omega arith;
      frame = omega arith;
    })

module _ (e : Endpoint) (n : Narrow e) where
  pub configure_narrow : (packet burst interval : ℕ) → packet < 2 ^ 16 → burst < 2 ^ 8 → interval < 2 ^ 8
      → Narrow (configure e packet burst interval).endpoint
  configure_narrow packet burst interval p b i =
      either (plain_no e)
      (λ z.
      rw (configure_acts e packet burst interval z)
      (record { slot = n.slot; dci = n.dci; packet = p; burst = b; interval = omega arith; frame = n.frame }))
      (λ r. rw (configure_refuses e packet burst interval r) n)

  pub start_narrow : (records packets : List ℕ) (request : Request) (lengths : List ℕ)
      → Narrow (start e records packets request lengths).0.endpoint
  unfolding started_endpoint
  start_narrow records packets request lengths =
      either (start_no e records (length packets) request lengths)
      (λ z. rw (start_acts e records packets request lengths z) (alike e _ refl refl n))
      (λ r. rw (start_refuses e records packets request lengths r) n)

  pub retire_narrow : (records : List ℕ) → Narrow (retire e records).0.endpoint
  retire_narrow records =
      either (record_no e records) (λ z. rw (retire_acts e records z) (alike e _ refl refl n)) (λ r. rw (retire_refuses e records r) n)

  pub begin_narrow : (records : List ℕ) → Narrow (begin_reset e records).endpoint
  begin_narrow records =
      either (begin_no e records)
      (λ z.
      ⊎_elim
      (λ (off : e.flags.halted ≡ false). rw (begin_clear e records z off) n)
      (λ (on : e.flags.halted ≡ true). rw (begin_acts e records z on) (alike e _ refl refl n))
      (off_or_on e.flags.halted))
      (λ r. rw (begin_refuses e records r) n)

  pub end_narrow : (worked : Bool) → Narrow (end_reset e worked).endpoint
  end_narrow worked =
      either (end_no e) (λ z. rw (end_acts e worked z) (alike e _ refl refl n)) (λ r. rw (end_refuses e worked r) n)

  -- The next frame is one of 2,048, or as it was.
  frame_narrow : (v : Record) → frame_on e v < 2 ^ 16
  frame_narrow v =
      picked (λ (f : ℕ). f < 2 ^ 16) (kind_is v.kind isoch) (frame_after e.periodic.frame e.periodic.interval) e.periodic.frame
      (λ t. omega arith)
      (λ t. n.frame)

  stepped_narrow : (next : Next) (v : Record) (packets : List ℕ) → Narrow (stepped next e v packets)
  unfolding stepped
  stepped_narrow the_link v packets = alike e _ refl refl n
  stepped_narrow the_trb v packets =
      record { slot = n.slot; dci = n.dci; packet = n.packet; burst = n.burst; interval = n.interval; frame = frame_narrow v }
  stepped_narrow the_first v packets = alike e _ refl refl n
  stepped_narrow none v packets = n

  pub reclaim_narrow : (finished records packets : List ℕ) (id : ℕ) → Narrow (reclaim e finished records packets id).0.endpoint
  unfolding leave
  reclaim_narrow finished records packets id =
      let s = state_of e [] finished records packets in
      let t = reclaim e finished records packets id in
      ⊎_elim
      (λ (u : Untouched s t). rw u.endpoint n)
      (λ (l : Looked s id t). ⊎_elim (λ same. rw same n) (λ gone. rw gone.gone (alike e _ refl refl n)) l.touches.end)
      (reclaim_result s id)

settled_narrow : (e : Endpoint) (v : Record) → Narrow e → Narrow (settled e v)
unfolding settled
settled_narrow e v n =
    picked Narrow (is_none (next_of e v)) (with_store e e.at e.periodic.frame idle) e (λ t. alike e _ refl refl n) (λ t. n)

pub store_narrow : (e : Endpoint) → Narrow e → (ring finished records packets : List ℕ) → Narrow (store e ring finished records packets).0.endpoint
store_narrow e n ring finished records packets =
    either (store_no e (length ring) (length finished) records (length packets))
    (λ z. rw (store_acts e ring finished records packets z) (settled_narrow _ _ (stepped_narrow e n _ _ packets)))
    (λ r. rw (store_refuses e ring finished records packets r) n)

pub submit_narrow : (e : Endpoint) → Narrow e → (ring finished records packets : List ℕ) (request : Request) (lengths : List ℕ)
    → Narrow (submit e ring finished records packets request lengths).0.endpoint
submit_narrow e n ring finished records packets request lengths =
    submit_keeps (λ (s : State). Narrow s.endpoint) (λ s h. store_narrow s.endpoint h s.ring s.finished s.records s.packets)
    (state_of e ring finished records packets) request lengths n (start_narrow e n records packets request lengths)

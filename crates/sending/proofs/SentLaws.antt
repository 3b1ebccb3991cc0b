-- What `send` leaves is what an admitted submission's stores leave, one after the other. Assumes nothing.
use Rattle.std.specs.Prelude.{Ok, Result, Err}
use Prim.Native.Nat.{ℕ, zero, suc, ◌+◌, ◌-◌, ◌<◌}
use mathlib.Core.Bool.{Bool, true, false, not}
use mathlib.Core.List.{List, [], ◌∷◌}
use mathlib.Core.Logic.{⊎_elim}
use mathlib.Core.Path.{◌≡◌, refl, sym, ap, subst, ◌∙◌}
use native.Mathlib.Omega.{arith}
use borrow.Author.Tests.{eq-eqb, ne_eqb, lt-ltb}
use lib.Dec.{eqb}
use lib.ListN.{length, get_or}
use Rattle.base.proofs.Compare.{same_or_not}
use Rattle.ring.specs.declared.Manner.TheVariants.{Onward}
use Rattle.ring.specs.declared.Position.{Position}
use Rattle.packets.specs.Packets.{packet_at}
use Rattle.sizes.specs.Sizes.{ring_size, record_count, packets_size}
use Rattle.records.specs.Kinds.{isoch}
use Rattle.records.specs.Records.{record_at}
use Rattle.packets.specs.declared.Packet.{Packet}
use Rattle.records.specs.declared.Record.{Record}
use Rattle.dock.specs.declared.Endpoint.{Endpoint}
use Rattle.dock.specs.declared.Request.{Request}
use Rattle.dock.specs.declared.What.{What}
use Rattle.dock.specs.declared.What.TheVariants.{Control, Bulk, Interrupt, Isoch}
use Rattle.dock.specs.declared.After.{After}
use Rattle.dock.specs.declared.Submitted.{Submitted}
use Rattle.dock.specs.declared.Stored.{Stored}
use Rattle.dock.specs.declared.Refusal.{Refusal}
use Rattle.dock.specs.declared.Stored.TheVariants as stored
use Rattle.dock.specs.Requests.{required, with_what, record_for}
use Rattle.dock.specs.Start.{start_no, too_long, id_taken, record_taken, at_least_one, started_endpoint, started_records, write_packets}
use Rattle.dock.specs.State.{with_store}
use Rattle.dock.specs.NextStore.{store, with_stored}
use Rattle.dock.specs.Trbs.{trb_count, trb_of, deferred, chained}
use Rattle.dock.specs.Submit.{after_store, finish, most_stores}
use Rattle.dock.proofs.StartPacketLaws.{packet_written}
use Rattle.dock.proofs.SubmitEndLaws.{start_finishes}
use Rattle.dock.proofs.StartLaws.{start_admitted, record_below, record_written}
use Rattle.dock.proofs.StartStoreLaws.{count_is, started_count, started_next, started_storing, required_some}
use Rattle.dock.proofs.TdLaws.{by_deferred, chain_worked, isoch_early, isoch_unchained}
use Rattle.trbs.specs.Trbs.{first_of}
use Rattle.isoch.specs.declared.Pen.{Pen}
use Rattle.striding.specs.Deferred.{stages_put, deferred_put}
use Rattle.isoch.specs.Packed.{packet_put, packets_put}
use Rattle.sending.specs.Sent.{pen_of, sent_isoch, plain_put, sent_by}
use Rattle.striding.specs.Stride.{put_trb, strides, closed}
use Rattle.sending.proofs.StrideLaws.{Ends, strides_end}

abbrev Whole : Type 0
Whole = After Submitted × List ℕ × List ℕ

-- ---- a submission that is done is done in one way, however many stores it was given

abbrev Done : Whole → Type 0
Done w = (id : ℕ) × (bell : ℕ) × (w.0.answer ≡ Ok (record { id = id; bell = bell }))

-- What follows a store, in two ways that agree where both are done.
one_answer : (x : Result Stored Refusal) (e : Endpoint) (ring finished : List ℕ) (f g : Endpoint → List ℕ → List ℕ → Whole)
    → (Done (f e ring finished) → Done (g e ring finished) → f e ring finished ≡ g e ring finished)
    → Done (after_store x e ring finished f) → Done (after_store x e ring finished g) → after_store x e ring finished f ≡ after_store x e ring finished g
one_answer (Ok (stored.Slot slot)) e ring finished f g same p q = same p q
one_answer (Ok (stored.Last slot id bell)) e ring finished f g same p q = refl
one_answer (Err number) e ring finished f g same p q = refl

never : (e : Endpoint) (ring finished records packets : List ℕ) → Done (finish 0 e ring finished records packets) → ⊥
unfolding finish
never e ring finished records packets (id, bell, q) = let z : ◌≡◌ {A = ℕ} 0 1 = cc in absurd (omega arith)

one_way : (m n : ℕ) (e : Endpoint) (ring finished records packets : List ℕ) → Done (finish m e ring finished records packets)
    → Done (finish n e ring finished records packets) → finish m e ring finished records packets ≡ finish n e ring finished records packets
unfolding finish
one_way zero n e ring finished records packets p q = absurd (never e ring finished records packets p)
one_way (suc m) zero e ring finished records packets p q = absurd (never e ring finished records packets q)
one_way (suc m) (suc n) e ring finished records packets p q =
    let s = store e ring finished records packets in
    one_answer s.0.answer s.0.endpoint s.1 s.2
    (λ e ring finished. finish m e ring finished records packets) (λ e ring finished. finish n e ring finished records packets)
    (one_way m n s.0.endpoint s.1 s.2 records packets) p q

-- ---- the packets of an ISO request

-- The endpoint of an ISO submission of which k packets are stored, its pen there.
abbrev penned : Endpoint → ℕ → Pen → Endpoint
penned e k pen = with_store e pen.at pen.frame (with_stored e.work k pen.address)

module _ (e : Endpoint) (v : Record) (asked sizes : List ℕ) (kind : v.kind ≡ isoch) (count : trb_count v ≡ length sizes)
    (asks : (k : ℕ) → k < length sizes → (packet_at asked e.work.number k).requested ≡ get_or sizes k 0) where
  abbrev behind : ℕ → Pen × List ℕ × List ℕ → Endpoint × List ℕ × List ℕ
  behind k d = (penned e k d.0, d.1, d.2)

  packets_stride : (n k : ℕ) (pen : Pen) (ring finished : List ℕ) → k + n ≡ length sizes
      → strides n (penned e k pen) v asked ring finished
      ≡ behind (k + n) (packets_put n k e.shape e.periodic v.incoming sizes pen ring finished)
  unfolding strides packets_put packet_put trb_of
  packets_stride zero k pen ring finished left = ap (λ (j : ℕ). behind j (pen, ring, finished)) (omega arith)
  packets_stride (suc n) k pen ring finished left =
      let d = packet_put e.shape e.periodic v.incoming (get_or sizes k 0) (not (eqb (k + 1) (length sizes))) pen ring finished in
      simp (kind, count, asks k (omega arith), isoch_early v kind, isoch_unchained (penned e k pen) v kind)
      (packets_stride n (k + 1) d.0 d.1 d.2 (omega arith)
      ∙ ap (λ (j : ℕ). behind j (packets_put n (k + 1) e.shape e.periodic v.incoming sizes d.0 d.1 d.2)) (omega arith))

-- ---- the stages of a control request, whose TD is deferred

module _ (e : Endpoint) (v : Record) (asked ring finished : List ℕ) where
  abbrev staged : ℕ → Position × List ℕ × List ℕ → Endpoint × List ℕ × List ℕ
  staged k s = (with_store e s.0 e.periodic.frame (with_stored e.work k e.work.address), s.1, s.2)

  abbrev hidden_first : Position × List ℕ × List ℕ
  hidden_first = put_trb e.shape (chained e v) e.at (first_of v) (Onward true) ring finished

  abbrev Staged : ℕ → Type 0
  Staged n = strides n e v asked ring finished ≡ staged n (stages_put e.shape (chained e v) v hidden_first)

  -- Without data they are two, setup and status,
  two_strides : e.work.stored ≡ 0 → deferred v ≡ true → v.length ≡ 0 → Staged 2
  unfolding strides trb_of stages_put first_of
  two_strides none late nothing = simp (none, late, (by_deferred v).so late, nothing, chain_worked e v)

  -- with data three.
  three_strides : e.work.stored ≡ 0 → deferred v ≡ true → (v.length ≡ 0 → ⊥) → Staged 3
  unfolding strides trb_of stages_put first_of
  three_strides none late some =
      simp (none, late, (by_deferred v).so late, ne_eqb v.length 0 some, lt-ltb 0 v.length (omega arith), chain_worked e v)

-- ---- by the kind

module _ (e : Endpoint) (records packets : List ℕ) (lengths ring finished : List ℕ) where
  abbrev begun_with : Request → Endpoint
  begun_with request = started_endpoint e records request lengths

  abbrev kept : Request → Record
  kept request = record_for request (length lengths) (id_taken e records) e.at.place

  abbrev asked : Request → List ℕ
  asked request = write_packets packets (record_taken e) request.what lengths

  abbrev pub Sent : Type 0
  Sent = After Submitted × List ℕ × List ℕ × List ℕ

  -- Ring and finished table behind the stores, with the packets written.
  abbrev pub joined_by : Request → Whole → Sent
  joined_by request w = (w.0, w.1, w.2, asked request)

  abbrev Alike : Request → Type 0
  Alike request =
      joined_by request (closed (kept request) (asked request) (strides (required request (length lengths)) (begun_with request) (kept request) (asked request) ring finished))
      ≡ sent_by (begun_with request) (kept request) ring finished packets lengths

  bulk_alike : (incoming : Bool) (given : Request) → Alike (with_what given (Bulk incoming))
  unfolding started_endpoint write_packets strides closed trb_of deferred sent_by plain_put
  bulk_alike incoming given = refl

  interrupt_alike : (incoming : Bool) (given : Request) → Alike (with_what given (Interrupt incoming))
  unfolding started_endpoint write_packets strides closed trb_of deferred sent_by plain_put
  interrupt_alike incoming given = refl

  -- A control request's TD is deferred; without data it is setup and status, with data it has three stages.
  module _ (type request value index : ℕ) (given : Request) where
    abbrev c : Request
    c = with_what given (Control type request value index)

    late : deferred (kept c) ≡ true
    unfolding deferred
    late = refl

    staged_alike : (n : ℕ) → required c (length lengths) ≡ n → Staged (begun_with c) (kept c) (asked c) ring finished n → Alike c
    unfolding started_endpoint write_packets closed trb_of deferred first_of sent_by plain_put deferred_put
    staged_alike n many stages =
        ap (λ (m : ℕ). joined_by c (closed (kept c) (asked c) (strides m (begun_with c) (kept c) (asked c) ring finished))) many
        ∙ ap (λ (x : Endpoint × List ℕ × List ℕ). joined_by c (closed (kept c) (asked c) x)) stages

    control_alike : Alike c
    unfolding started_endpoint
    control_alike =
        ⊎_elim
        (λ (none : given.length ≡ 0). staged_alike 2 (rw (eq-eqb given.length 0 none) refl) (two_strides (begun_with c) (kept c) (asked c) ring finished refl late none))
        (λ (some : given.length ≡ 0 → ⊥). staged_alike 3 (rw (ne_eqb given.length 0 some) refl) (three_strides (begun_with c) (kept c) (asked c) ring finished refl late some))
        (same_or_not given.length 0)

  module _ (incoming : Bool) (given : Request) (sized : length packets ≡ packets_size) (below : record_taken e < record_count)
      (short : too_long (Isoch incoming) given.length lengths ≡ false) where
    abbrev q : Request
    q = with_what given (Isoch incoming)

    abbrev b : Endpoint
    b = begun_with q

    counted : trb_count (kept q) ≡ length (at_least_one lengths)
    counted = count_is q lengths (id_taken e records) e.at.place short ∙ most lengths
      where
        most : (l : List ℕ) → required q (length l) ≡ length (at_least_one l)
        most [] = refl
        most (n ∷ ns) = omega arith

    asks : (k : ℕ) → k < length (at_least_one lengths) → (packet_at (asked q) b.work.number k).requested ≡ get_or (at_least_one lengths) k 0
    unfolding started_endpoint
    asks k l = ap (λ (p : Packet). p.requested) (packet_written packets (record_taken e) incoming given.length lengths sized below short k l)

    isoch_alike : Alike q
    unfolding started_endpoint write_packets closed deferred sent_by sent_isoch
    isoch_alike =
        ap (λ (n : ℕ). joined_by q (closed (kept q) (asked q) (strides n b (kept q) (asked q) ring finished)))
        (sym (count_is q lengths (id_taken e records) e.at.place short) ∙ counted)
        ∙ ap (λ (x : Endpoint × List ℕ × List ℕ). joined_by q (closed (kept q) (asked q) x))
        (packets_stride b (kept q) (asked q) (at_least_one lengths) refl counted asks (length (at_least_one lengths)) 0 (pen_of b) ring finished (omega arith))

  alike : (what : What) (given : Request) → length packets ≡ packets_size → record_taken e < record_count → too_long what given.length lengths ≡ false
      → Alike (with_what given what)
  alike (Control type request value index) given sized below short = control_alike type request value index given
  alike (Bulk incoming) given sized below short = bulk_alike incoming given
  alike (Interrupt incoming) given sized below short = interrupt_alike incoming given
  alike (Isoch incoming) given sized below short = isoch_alike incoming given sized below short

-- ---- the whole

module _ (e : Endpoint) (ring finished records packets : List ℕ) (request : Request) (lengths : List ℕ)
    (passed : start_no e records (length packets) request lengths ≡ 0)
    (ring_size_lem : length ring ≡ ring_size e.shape.slots) (finished_size : length finished ≡ ring_size e.shape.slots) where
  abbrev begun_now : Endpoint
  begun_now = started_endpoint e records request lengths

  abbrev written : List ℕ
  written = started_records e records request lengths

  abbrev asked_now : List ℕ
  asked_now = write_packets packets (record_taken e) request.what lengths

  abbrev held : Record
  held = record_for request (length lengths) (id_taken e records) e.at.place

  abbrev stridden : ℕ → Record → Whole
  stridden n v = closed v asked_now (strides n begun_now v asked_now ring finished)

  same_record : record_at written begun_now.work.number ≡ held
  unfolding started_endpoint
  same_record = record_written e records packets request lengths passed

  -- The strides of the submission, within some number of stores.
  ends : Ends written asked_now begun_now ring finished (stridden (required request (length lengths)) held)
  unfolding started_endpoint
  ends =
      let count = started_count e ring finished records packets request lengths passed ring_size_lem finished_size in
      let some = required_some request.what request.length (length lengths) in
      let whole : suc (required request (length lengths) - 1) ≡ required request (length lengths) = omega arith in
      subst (λ (v : Record). Ends written asked_now begun_now ring finished (stridden (required request (length lengths)) v)) same_record
      (subst (λ (n : ℕ). Ends written asked_now begun_now ring finished (stridden n (record_at written begun_now.work.number))) whole
      (strides_end written asked_now (required request (length lengths) - 1) begun_now ring finished
      (started_storing e ring finished records packets request lengths passed ring_size_lem finished_size)
      (started_next e ring finished records packets request lengths passed ring_size_lem finished_size)
      (omega arith)))

  is_done : (w : Whole) → w ≡ stridden (required request (length lengths)) held → Done w
  unfolding closed
  is_done w q =
      (held.id, (strides (required request (length lengths)) begun_now held asked_now ring finished).0.who.dci, ap (λ (x : Whole). x.0.answer) q)

  same : finish (most_stores request (length lengths)) begun_now ring finished written asked_now ≡ stridden (required request (length lengths)) held
  same =
      one_way (most_stores request (length lengths)) ends.0 begun_now ring finished written asked_now
      (id_taken e records, begun_now.who.dci, (start_finishes e ring finished records packets request lengths passed ring_size_lem finished_size).answer)
      (is_done (finish ends.0 begun_now ring finished written asked_now) ends.1)
      ∙ ends.1

  -- What the stores of an admitted submission leave is what `send` leaves behind its start.
  pub sent_is : joined_by e records packets lengths ring finished request (finish (most_stores request (length lengths)) begun_now ring finished written asked_now)
      ≡ sent_by begun_now held ring finished packets lengths
  sent_is =
      let s = start_admitted e records packets request lengths passed in
      ap (joined_by e records packets lengths ring finished request) same
      ∙ alike e records packets lengths ring finished request.what request s.packets_size_lem (record_below e records packets request lengths passed) s.short

-- The books agree with the dock's own state in every state that a run reaches (`run_agreed`): shape and identity are those of the making, the settings
-- are those of the last configure that was admitted, a record in flight counts as many TRBs as its request has, and while a submission is under way its record
-- is that of the last request that was admitted, and the TRBs of that request are the last of the list. Assumes nothing.
use Prim.Native.Nat.{ℕ, ◌+◌, max}
use mathlib.Core.Bool.{true, false, false≢true}
use mathlib.Core.List.{List, [], ◌∷◌, ◌++◌}
use mathlib.Core.Logic.{⊎_elim}
use mathlib.Core.Path.{◌≡◌, refl, sym, ap, ◌∙◌}
use native.Mathlib.Omega.{arith}
use borrow.Author.Tests.{eq-eqb, ne_eqb}
use lib.Dec.{eqb}
use lib.ListN.{length, drop}
use Rattle.base.proofs.Compare.{same_or_not}
use Rattle.base.proofs.Decide.{if_so}
use Rattle.ids.specs.Lookup.{find_in}
use Rattle.mask.specs.Occupancy as masks
use Rattle.mask.proofs.OccupancyLaws.{none_free}
use Rattle.trb.specs.declared.Trb.{Trb}
use Rattle.trb.specs.declared.Words.{Words}
use Rattle.std.specs.Prelude.{Some}
use Rattle.records.specs.Kinds.{kind_number, control}
use Rattle.records.proofs.KindLaws.{eq_kind}
use Rattle.records.specs.Records.{record_at}
use Rattle.records.specs.declared.Record.{Record}
use Rattle.dock.specs.declared.Account.{Account}
use Rattle.dock.specs.declared.Endpoint.{Endpoint}
use Rattle.dock.specs.declared.Identity.{Identity}
use Rattle.dock.specs.declared.After.{After}
use Rattle.dock.specs.declared.Stored.{Stored}
use Rattle.dock.specs.Refusals.{done}
use Rattle.dock.specs.declared.Periodic.{Periodic}
use Rattle.dock.specs.declared.Request.{Request}
use Rattle.dock.specs.declared.Shape.{Shape}
use Rattle.dock.specs.declared.What.{What}
use Rattle.dock.specs.declared.What.TheVariants as asks
use Rattle.dock.specs.Cancel.{cancel_no, cancel_tests}
use Rattle.dock.specs.Configure.{plain_no, plain_tests}
use Rattle.dock.specs.HandOver.{hand_over_no}
use Rattle.dock.specs.Make.{make, make_no, zeros}
use Rattle.dock.specs.NextStore.{store_no}
use Rattle.dock.specs.Numbers.{Numbered, outcome_number, stored_number, taken_number}
use Rattle.dock.specs.Reclaim.{leave, nothing, reclaim, reclaim_tests}
use Rattle.dock.specs.Requests.{kind_of, required, record_for}
use Rattle.dock.specs.Run.{State, made_of, Call, configures, starts, stores, submits, reclaims, cancels, retires, begins, ends, stops, resumes, points, after, answered}
use Rattle.dock.specs.Run as dock
use Rattle.dock.specs.RowOne.{flies}
use Rattle.dock.specs.Start.{start_no, record_taken, id_taken, started_endpoint, started_records}
use Rattle.dock.specs.Trbs.{deferred}
use Rattle.dock.proofs.Reached.{flight_part}
use Rattle.dock.proofs.ReachedBookLaws.{by_flies, Alike, flies_alike, still_held}
use Rattle.dock.proofs.ReachedSoundLaws.{Untouched, Looked, reclaim_result, not_done, marked_alike}
use Rattle.dock.proofs.ReclaimLaws.{Left}
use Rattle.dock.proofs.RefusalAnswerLaws.{refused_leaves}
use Rattle.dock.proofs.RefusalLaws.{make_refuses, make_acts, configure_refuses, configure_acts, plain_exact, start_refuses, start_acts, store_refuses, hand_over_refuses, hand_over_acts, cancel_refuses, cancel_acts, cancel_exact, reclaim_exact}
use Rattle.dock.proofs.StartLaws.{record_taken_lem, record_written, records_kept}
use Rattle.dock.proofs.StoreLaws.{last_store}
use Rattle.dock.proofs.StoreNextLaws.{store_admitted}
use Rattle.dock.proofs.StoreStepLaws.{store_keeps, store_goes_on, store_ends, step_works}
use Rattle.ids.proofs.AnyLaws.{true_or_false}
use Rattle.promise.specs.Requested.{Settings, requested, trbs_for, trbs_of, is_control, controls, defers}
use Rattle.promise.specs.Run.{Asked, World, slots, with_number, admits, under_way, handed, stepped, Move, calls, hands, steps, act, may, from_making, Run, made, and_then}
use Rattle.promise.proofs.Asked.{trbs_count}

-- ---- an answer's number, and the call's tests

module _ (w : World) (c : Call) where
  admits_by : (answered w.dock c).0 ≡ 0 → admits w c ≡ true
  unfolding admits
  admits_by q = eq-eqb _ 0 q

  declines_by : (n : ℕ) → (n ≡ 0 → ⊥) → (answered w.dock c).0 ≡ n → admits w c ≡ false
  unfolding admits
  declines_by n p q = ne_eqb _ 0 (λ z. p (sym q ∙ z))

module _ (w : World) where
  abbrev d : State
  d = w.dock

  module _ (packet burst interval : ℕ) where
    pub configure_yes : plain_no d.endpoint ≡ 0 → admits w (configures packet burst interval) ≡ true
    configure_yes p = admits_by w _ (ap (λ a. (outcome_number a.answer).0) (configure_acts d.endpoint packet burst interval p))

    pub configure_no : (plain_no d.endpoint ≡ 0 → ⊥) → admits w (configures packet burst interval) ≡ false
    configure_no p = declines_by w _ _ p (ap (λ (x : Numbered). x.0) (refused_leaves d (configures packet burst interval) p).0)

  module _ (request : Request) (lengths : List ℕ) where
    pub start_yes : start_no d.endpoint d.records (length d.packets) request lengths ≡ 0 → admits w (starts request lengths) ≡ true
    start_yes p = admits_by w _ (ap (λ a. (outcome_number a.0.answer).0) (start_acts d.endpoint d.records d.packets request lengths p))

    pub start_no_lem : (start_no d.endpoint d.records (length d.packets) request lengths ≡ 0 → ⊥) → admits w (starts request lengths) ≡ false
    start_no_lem p =
        declines_by w _ _ p (ap (λ (x : Numbered). x.0) (refused_leaves d (starts request lengths) p).0)

  pub store_yes : store_no d.endpoint (length d.ring) (length d.finished) d.records (length d.packets) ≡ 0 → under_way w ≡ true
  store_yes p =
      let last = last_store d.endpoint d.records d.packets in
      let by : After Stored → ℕ = λ a. (stored_number a.answer).0 in
      ⊎_elim
      (λ (t : last ≡ true). admits_by w stores (ap by (store_ends d.endpoint d.ring d.finished d.records d.packets p t)))
      (λ (t : last ≡ false). admits_by w stores (ap by (store_goes_on d.endpoint d.ring d.finished d.records d.packets p t)))
      (true_or_false last)

  pub store_no_lem : (store_no d.endpoint (length d.ring) (length d.finished) d.records (length d.packets) ≡ 0 → ⊥) → under_way w ≡ false
  store_no_lem p =
      declines_by w _ _ p (ap (λ (x : Numbered). x.0) (refused_leaves d stores p).0)

  module _ (event : Words) where
    pub event_yes : hand_over_no d.endpoint (length d.finished) event ≡ 0 → admits w (dock.hands event) ≡ true
    event_yes p = admits_by w _ (ap (λ a. (taken_number a.0).0) (hand_over_acts d.endpoint d.finished event p))

    pub event_no : (hand_over_no d.endpoint (length d.finished) event ≡ 0 → ⊥) → admits w (dock.hands event) ≡ false
    event_no p = declines_by w _ _ p (ap (λ (x : Numbered). x.0) (refused_leaves d (dock.hands event) p).0)

-- ---- what agrees

-- The record of the submission under way, and the number of its first TRB, as the dock has them.
abbrev pub record_under_way : World → Record
record_under_way w = record_at w.dock.records w.dock.endpoint.work.number

abbrev pub first_under_way : World → ℕ
first_under_way w = w.first w.dock.endpoint.work.number

module _ (e : Endpoint) (records : List ℕ) (a : Asked) (trbs : List Trb) (earlier : ℕ) (first until : ℕ → ℕ) where
  -- The submission under way is that of the last request.
  pub record OfLast : Type 0 where
    pub request : Request
    pub lengths : List ℕ
    pub last : a.last ≡ requested request lengths
    pub id : ℕ
    pub place : ℕ
    pub kept : record_at records e.work.number ≡ record_for request (length lengths) id place
    pub marked : first e.work.number ≡ earlier
    pub its_own : drop earlier trbs ≡ trbs_of a.settings request lengths

  pub record Agrees : Type 0 where
    pub shape : e.shape ≡ a.shape
    pub who : e.who ≡ a.who
    pub packet : e.periodic.packet ≡ a.settings.packet
    pub burst : e.periodic.burst ≡ a.settings.burst
    pub interval : e.periodic.interval ≡ max 1 a.settings.interval
    pub of_last : e.work.busy ≡ true → OfLast
    -- a record in flight counts as many TRBs as its request has
    pub ranges : (r : ℕ) → flies records e.account.occupancy r ≡ true → first r + (record_at records r).count ≡ until r

abbrev pub Agreed : World → Type 0
Agreed w = Agrees w.dock.endpoint w.dock.records w.asked w.trbs w.earlier w.first w.until

-- ---- each move keeps it

-- What stands behind the front of a list.
behind : {A : Type 0} (front back : List A) → drop (length front) (front ++ back) ≡ back
behind [] back = refl
behind (x ∷ front) back = behind front back

module _ (a : Asked) (trbs : List Trb) (earlier : ℕ) (first until : ℕ → ℕ) where
  -- With none under way, of the endpoint only the shape, the identity, the settings and the held records matter, and of the records those in flight.
  resting : (e after : Endpoint) (records changed : List ℕ) → after.shape ≡ e.shape → after.who ≡ e.who → after.periodic ≡ e.periodic → after.work ≡ e.work
      → e.work.busy ≡ false → ((r : ℕ) → flies changed after.account.occupancy r ≡ true → flies records e.account.occupancy r ≡ true)
      → Alike records changed → Agrees e records a trbs earlier first until → Agrees after changed a trbs earlier first until
  resting e after records changed shape who periodic work free flew alike g = record {
    shape = shape ∙ g.shape;
    who = who ∙ g.who;
    packet = ap (λ (p : Periodic). p.packet) periodic ∙ g.packet;
    burst = ap (λ (p : Periodic). p.burst) periodic ∙ g.burst;
    interval = ap (λ (p : Periodic). p.interval) periodic ∙ g.interval;
    of_last = λ b. absurd (false≢true (sym free ∙ sym (ap (λ x. x.busy) work) ∙ b));
    ranges = λ r fly. ap (λ (n : ℕ). first r + n) (alike.count r) ∙ g.ranges r (flew r fly);
  }

module _ (w : World) (g : Agreed w) where
  abbrev s : State
  s = w.dock

  abbrev e : Endpoint
  e = w.dock.endpoint

  configured : (packet burst interval : ℕ) → Agreed (act w (calls (configures packet burst interval)))
  unfolding plain_tests
  configured packet burst interval =
      ⊎_elim
      (λ (p : plain_no e ≡ 0).
      let free : e.work.busy ≡ false = (plain_exact e).passed p 1 (omega arith) in
      rw (configure_yes w packet burst interval p, configure_acts e packet burst interval p)
      (record {
        shape = g.shape;
        who = g.who;
        packet = refl;
        burst = refl;
        interval = refl;
        of_last = λ b. absurd (false≢true (sym free ∙ b));
        ranges = g.ranges;
      }))
      (λ (p : plain_no e ≡ 0 → ⊥). rw (configure_no w packet burst interval p, configure_refuses e packet burst interval p) g)
      (same_or_not (plain_no e) 0)

  module _ (request : Request) (lengths : List ℕ) (p : start_no e s.records (length s.packets) request lengths ≡ 0) where
    abbrev its : ℕ
    its = length (trbs_of w.asked.settings request lengths)

    ranges_started : (r : ℕ)
        → flies (started_records e s.records request lengths) (started_endpoint e s.records request lengths).account.occupancy r ≡ true
        → with_number w.first (record_taken e) (length w.trbs) r + (record_at (started_records e s.records request lengths) r).count
        ≡ with_number w.until (record_taken e) (length w.trbs + its) r
    ranges_started r fly =
        let records = started_records e s.records request lengths in
        let taken = record_taken_lem e s.records s.packets request lengths p in
        ⊎_elim
        (λ (q : r ≡ record_taken e).
        let here : eqb r (record_taken e) ≡ true = eq-eqb r (record_taken e) q in
        let count : (record_at records r).count ≡ required request (length lengths) =
        ap (λ (n : ℕ). (record_at records n).count) q ∙ ap (λ (v : Record). v.count) (record_written e s.records s.packets request lengths p) in
        rw here (omega (arith, trbs_count w.asked.settings request lengths)))
        (λ (q : r ≡ record_taken e → ⊥).
        let b = (by_flies records (started_endpoint e s.records request lengths).account.occupancy r).so fly in
        let kept = records_kept e s.records s.packets request lengths p r q in
        rw (ne_eqb r (record_taken e) q, kept)
        (g.ranges r
        (if_so (by_flies s.records e.account.occupancy r)
        (sym (taken.others r q) ∙ b.0, ap (λ (v : Record). v.state) (sym kept) ∙ b.1))))
        (same_or_not r (record_taken e))

  started : (request : Request) (lengths : List ℕ) → Agreed (act w (calls (starts request lengths)))
  unfolding started_endpoint
  started request lengths =
      ⊎_elim
      (λ (p : start_no e s.records (length s.packets) request lengths ≡ 0).
      let r = record_taken e in
      let here : eqb r r ≡ true = eq-eqb r r refl in
      rw (start_yes w request lengths p, start_acts e s.records s.packets request lengths p)
      (record {
        shape = g.shape;
        who = g.who;
        packet = g.packet;
        burst = g.burst;
        interval = g.interval;
        of_last = λ b.
            record {
              request = request;
              lengths = lengths;
              last = refl;
              id = id_taken e s.records;
              place = e.at.place;
              kept = record_written e s.records s.packets request lengths p;
              marked = rw here refl;
              its_own = behind w.trbs (trbs_of w.asked.settings request lengths);
            };
        ranges = ranges_started request lengths p;
      }))
      (λ (p : start_no e s.records (length s.packets) request lengths ≡ 0 → ⊥).
      rw (start_no_lem w request lengths p, start_refuses e s.records s.packets request lengths p) g)
      (same_or_not (start_no e s.records (length s.packets) request lengths) 0)

  -- A store keeps the record of the submission, and the last one ends it.
  stored_more : (after : Endpoint) → after.shape ≡ e.shape → after.who ≡ e.who → after.account ≡ e.account → after.periodic.packet ≡ e.periodic.packet
      → after.periodic.burst ≡ e.periodic.burst → after.periodic.interval ≡ e.periodic.interval
      → (after.work.busy ≡ true → e.work.busy ≡ true) → (after.work.busy ≡ true → after.work.number ≡ e.work.number)
      → Agrees after s.records w.asked w.trbs w.earlier w.first w.until
  stored_more after shape who account packet burst interval was number = record {
    shape = shape ∙ g.shape;
    who = who ∙ g.who;
    packet = packet ∙ g.packet;
    burst = burst ∙ g.burst;
    interval = interval ∙ g.interval;
    of_last = λ b.
        let o = g.of_last (was b) in
        let same = number b in
        record {
          request = o.request;
          lengths = o.lengths;
          last = o.last;
          id = o.id;
          place = o.place;
          kept = ap (record_at s.records) same ∙ o.kept;
          marked = ap w.first same ∙ o.marked;
          its_own = o.its_own;
        };
    ranges = λ r fly. g.ranges r (ap (λ (x : Account). flies s.records x.occupancy r) (sym account) ∙ fly);
  }

  stored : Agreed (act w (calls stores))
  stored =
      ⊎_elim
      (λ (p : store_no e (length s.ring) (length s.finished) s.records (length s.packets) ≡ 0).
      let k = store_keeps e s.ring s.finished s.records s.packets p in
      let busy = (store_admitted e s.ring s.finished s.records s.packets p).busy in
      stored_more (after s stores).endpoint k.shape k.who k.account k.packet k.burst k.interval (λ b. busy)
      (λ b.
      ⊎_elim
      (λ (last : last_store e s.records s.packets ≡ true).
      absurd (false≢true
      (sym (ap (λ (x : After Stored). x.endpoint.work.busy) (store_ends e s.ring s.finished s.records s.packets p last)) ∙ b)))
      (λ (more : last_store e s.records s.packets ≡ false).
      ap (λ (x : After Stored). x.endpoint.work.number) (store_goes_on e s.ring s.finished s.records s.packets p more)
      ∙ (step_works _ e _ s.packets).number)
      (true_or_false (last_store e s.records s.packets))))
      (λ (p : store_no e (length s.ring) (length s.finished) s.records (length s.packets) ≡ 0 → ⊥).
      rw (store_refuses e s.ring s.finished s.records s.packets p) g)
      (same_or_not (store_no e (length s.ring) (length s.finished) s.records (length s.packets)) 0)

  -- Records that say the same of counts and states, with none under way.
  same : e.work.busy ≡ false → (changed : List ℕ) → Alike s.records changed
      → Agrees e changed w.asked w.trbs w.earlier w.first w.until
  same free changed alike =
      resting w.asked w.trbs w.earlier w.first w.until e e s.records changed refl refl refl refl free
      (λ r fly. sym (flies_alike s.records changed e.account.occupancy r alike) ∙ fly) alike g

  cancelled : (id : ℕ) → Agreed (act w (calls (cancels id)))
  unfolding cancel_tests
  cancelled id =
      ⊎_elim
      (λ (p : cancel_no e s.records id ≡ 0).
      let alike = marked_alike s.records (find_in s.records e.account.occupancy id) in
      rw (cancel_acts e s.records id p)
      (same ((cancel_exact e s.records id).passed p 1 (omega arith)) _ alike))
      (λ (p : cancel_no e s.records id ≡ 0 → ⊥). rw (cancel_refuses e s.records id p) g)
      (same_or_not (cancel_no e s.records id) 0)

  reclaimed : (id : ℕ) → Agreed (act w (calls (reclaims id)))
  unfolding leave reclaim_tests
  reclaimed id =
      let t = reclaim e s.finished s.records s.packets id in
      ⊎_elim
      (λ (u : Untouched s t). rw (u.endpoint, u.records) g)
      (λ (u : Looked s id t).
      let free : e.work.busy ≡ false = (reclaim_exact e s.finished s.records s.packets id).passed u.allowed 2 (omega arith) in
      let alike = u.touches.own_record.alike in
      ⊎_elim
      (λ (n : t.0 ≡ nothing e). rw n (same free t.1 alike))
      (λ (n : Left e u.number (flight_part s.records e.account.occupancy u.number) t.0).
      rw n.gone
      (resting w.asked w.trbs w.earlier w.first w.until e _ s.records t.1 refl refl refl refl free
      (λ r fly.
      let b = (by_flies t.1 (masks.freed e.account.occupancy u.number) r).so fly in
      if_so (by_flies s.records e.account.occupancy r)
      (still_held e.account s.records u.number u.lowest.within r b.0, sym (alike.state r) ∙ b.1))
      alike g))
      u.touches.end)
      (reclaim_result s id)

call_agreed : (w : World) (c : Call) → Agreed w → may w (calls c) ≡ true → Agreed (act w (calls c))
call_agreed w (configures packet burst interval) g allowed = configured w g packet burst interval
call_agreed w (starts request lengths) g allowed = started w g request lengths
call_agreed w stores g allowed = stored w g
call_agreed w (submits request lengths) g allowed = absurd (false≢true allowed)
call_agreed w (dock.hands event) g allowed = absurd (false≢true allowed)
call_agreed w (reclaims id) g allowed = reclaimed w g id
call_agreed w (cancels id) g allowed = cancelled w g id
call_agreed w retires g allowed = absurd (false≢true allowed)
call_agreed w begins g allowed = absurd (false≢true allowed)
call_agreed w (ends worked) g allowed = absurd (false≢true allowed)
call_agreed w stops g allowed = g
call_agreed w resumes g allowed = g
call_agreed w points g allowed = g

act_agreed : (w : World) (m : Move) → Agreed w → may w m ≡ true → Agreed (act w m)
unfolding handed stepped
act_agreed w (calls c) g allowed = call_agreed w c g allowed
act_agreed w (hands event nth) g allowed = g
act_agreed w steps g allowed = g

-- ---- runs

module _ (ring finished records packets : List ℕ) (shape : Shape) (who : Identity) where
  abbrev row : ℕ
  row = make_no (length ring) (length finished) (length records) (length packets) shape who

  none_fly : (r : ℕ) → flies (zeros records) masks.none r ≡ true → 0 + (record_at (zeros records) r).count ≡ 0
  none_fly r fly = absurd (false≢true (sym (none_free r) ∙ ((by_flies (zeros records) masks.none r).so fly).0))

  made_agreed : (make ring finished records packets shape who).0.answer ≡ done
      → Agreed (from_making shape who (made_of (make ring finished records packets shape who)))
  made_agreed done =
      ⊎_elim
      (λ (p : row ≡ 0). rw (make_acts ring finished records packets shape who p)
      (record { shape = refl; who = refl; packet = refl; burst = refl; interval = refl; of_last = λ b. absurd (false≢true b); ranges = none_fly }))
      (λ (p : row ≡ 0 → ⊥).
      absurd (not_done _ (sym (ap (λ m. m.0.answer) (make_refuses ring finished records packets shape who p)) ∙ done)))
      (same_or_not row 0)

pub run_agreed : {w : World} → Run w → Agreed w
run_agreed (made ring finished records packets shape who done) = made_agreed ring finished records packets shape who done
run_agreed (and_then {w} r m allowed) = act_agreed w m (run_agreed r) allowed

-- ---- what follows

-- The TRBs of a request go by max packet size and burst.
pub same_trbs : (a b : Settings) (request : Request) (lengths : List ℕ) → a.packet ≡ b.packet → a.burst ≡ b.burst
    → trbs_of a request lengths ≡ trbs_of b request lengths
same_trbs a b request lengths packet burst = by request.what
  where
    by : (what : What) → trbs_for a what request.address request.length lengths ≡ trbs_for b what request.address request.length lengths
    by (asks.Control type code value index) = refl
    by (asks.Bulk incoming) = refl
    by (asks.Interrupt incoming) = refl
    by (asks.Isoch incoming) = rw (packet, burst) refl

control_kind : (what : What) → is_control what ≡ true → kind_number (kind_of what) ≡ control
control_kind (asks.Control type code value index) c = refl
control_kind (asks.Bulk incoming) c = absurd (false≢true c)
control_kind (asks.Interrupt incoming) c = absurd (false≢true c)
control_kind (asks.Isoch incoming) c = absurd (false≢true c)

module _ (w : World) (g : Agreed w) where
  pub slots_are : slots w ≡ w.dock.endpoint.shape.slots
  slots_are = ap (λ (x : Shape). x.slots) (sym g.shape)

  module _ (busy : w.dock.endpoint.work.busy ≡ true) where
    -- The dock defers the TD under way where the last request's is deferred.
    pub deferred_is : deferred (record_under_way w) ≡ defers w.asked.last
    unfolding deferred
    deferred_is = let o = g.of_last busy in rw (o.kept, o.last) refl

    -- A control request's is.
    pub control_defers : controls w.asked.last ≡ true → deferred (record_under_way w) ≡ true
    unfolding deferred
    control_defers c =
        let o = g.of_last busy in
        rw o.kept (eq_kind _ control (control_kind o.request.what (ap controls (sym o.last) ∙ c)))

-- The start of a submission keeps the invariant: an admitted one is the model's begin of a TD with the request's TRBs, deferred as its record says, and
-- its record has them. Assumes nothing.
use Prim.Native.Nat.{ℕ, suc, ◌+◌, ◌-◌, ◌<◌, ◌≤◌}
use mathlib.Core.Bool.{Bool, true, false, false≢true}
use mathlib.Core.List.{List, [], ◌∷◌, ◌++◌}
use mathlib.Core.Logic.{⊎_elim}
use mathlib.Core.Option.{none}
use mathlib.Core.Path.{◌≡◌, refl, sym, ap, ap₂, ◌∙◌, subst}
use native.Mathlib.Omega.{arith}
use borrow.Author.Tests.{eq-eqb, ne_eqb}
use lib.Dec.{eqb}
use lib.ListN.{length, length-append}
use Rattle.base.proofs.Compare.{same_or_not, lt_or_le}
use Rattle.base.proofs.Decide.{if_so}
use Rattle.sizes.specs.Sizes.{record_count}
use Rattle.mask.specs.Occupancy.{held}
use Rattle.mask.specs.declared.Occupancy.{Occupancy}
use Rattle.trb.specs.declared.Trb.{Trb}
use Rattle.trb.specs.declared.Words.{Words}
use Rattle.records.specs.Kinds.{control, bulk, interrupt, isoch}
use Rattle.records.proofs.KindLaws.{kind_false}
use Rattle.records.specs.States.{in_flight}
use Rattle.records.specs.Records.{record_at}
use Rattle.records.specs.declared.Record.{Record}
use Rattle.dock.specs.declared.Endpoint.{Endpoint}
use Rattle.dock.specs.declared.Request.{Request}
use Rattle.dock.specs.declared.What.{What}
use Rattle.dock.specs.declared.What.TheVariants as asks
use Rattle.dock.specs.RowOne.{flies}
use Rattle.dock.specs.Requests.{required, with_what, record_for}
use Rattle.dock.specs.Start.{start_no, record_taken, id_taken, charged, write_packets, started_endpoint, started_records}
use Rattle.dock.specs.Trbs.{trb_count, deferred, chained}
use Rattle.dock.proofs.ReachedBookLaws.{by_flies}
use Rattle.dock.proofs.Reached.{Sound}
use Rattle.dock.specs.Run.{state_of}
use Rattle.dock.specs.Run as dock
use Rattle.dock.proofs.RefusalLaws.{start_acts, start_refuses}
use Rattle.dock.proofs.StartLaws.{Starting, start_admitted, record_below, record_free, record_taken_lem, record_written, records_kept}
use Rattle.dock.proofs.StartStoreLaws.{count_is, required_some}
use Rattle.order.specs.Flat.{flat}
use Rattle.order.specs.Model.{Td, Plain, idle, busy, starts, begin, MayBegin}
use Rattle.order.specs.Model as model
use Rattle.order.proofs.Index.{pos}
use Rattle.order.proofs.Moves.{Inv, begin_keeps, length_layout, resting, starts_pending}
use Rattle.order.proofs.Numbers.{Numbered, begin_numbered}
use Rattle.promise.specs.Requested.{trbs_of, typed}
use Rattle.promise.specs.Run.{World, with_number, with_request, calls, act}
use Rattle.promise.proofs.Agreed.{Agreed, start_yes, start_no_lem, same_trbs}
use Rattle.promise.proofs.Asked.{settings_in, asked_for, trbs_count, trbs_plain, link_is}
use Rattle.promise.proofs.Awaited.{next_at}
use Rattle.promise.proofs.Handed.{idle_kept, all_stored}
use Rattle.promise.proofs.Kept.{position_of, model_in, link_words, left, Under, opens, shows, Kept, Counts, Holds, Owner, Flights}
use Rattle.promise.proofs.Laid.{bare, bared, bared_length, bared_append}

-- ---- the record of an admitted request

-- The count of its record goes by its kind.
record_counts : (request : Request) (count id place : ℕ) → Counts (record_for request count id place)
record_counts request count id place = counts request.what
  where
    counts : (what : What) → Counts (record_for (with_what request what) count id place)
    counts (asks.Control type code value index) = record {
      some = required_some (asks.Control type code value index) request.length count;
      of_control = λ q. refl;
      of_bulk = λ q. absurd (kind_false control bulk refl q);
      of_interrupt = λ q. absurd (kind_false control interrupt refl q);
    }
    counts (asks.Bulk incoming) = record {
      some = omega arith;
      of_control = λ q. absurd (kind_false bulk control refl q);
      of_bulk = λ q. refl;
      of_interrupt = λ q. absurd (kind_false bulk interrupt refl q);
    }
    counts (asks.Interrupt incoming) = record {
      some = omega arith;
      of_control = λ q. absurd (kind_false interrupt control refl q);
      of_bulk = λ q. absurd (kind_false interrupt bulk refl q);
      of_interrupt = λ q. refl;
    }
    counts (asks.Isoch incoming) = record {
      some = omega arith;
      of_control = λ q. absurd (kind_false isoch control refl q);
      of_bulk = λ q. absurd (kind_false isoch bulk refl q);
      of_interrupt = λ q. absurd (kind_false isoch interrupt refl q);
    }

-- ---- the records in flight, with one more

module _ (K : ℕ) (records after : List ℕ) (occupancy taken : Occupancy) (first : ℕ → ℕ) (total heard r : ℕ) (v : Record)
    (within : r < record_count) (free : held occupancy r ≡ false) (holds : held taken r ≡ true) (others : (q : ℕ) → (q ≡ r → ⊥) → held taken q ≡ held occupancy q)
    (written : record_at after r ≡ v) (kept : (q : ℕ) → (q ≡ r → ⊥) → record_at after q ≡ record_at records q)
    (flying : v.state ≡ in_flight) (at : (pos K total).place ≡ v.place) (counts : Counts v)
    (f : Flights K records occupancy first total heard) where
  abbrev firsts : ℕ → ℕ
  firsts = with_number first r total

  here_first : firsts r ≡ total
  here_first = let q : eqb r r ≡ true = eq-eqb r r refl in rw q

  other_first : (q : ℕ) → (q ≡ r → ⊥) → firsts q ≡ first q
  other_first q d = rw (ne_eqb q r d)

  was_flying : (q : ℕ) → (q ≡ r → ⊥) → flies after taken q ≡ true → flies records occupancy q ≡ true
  was_flying q d fly =
      let b = (by_flies after taken q).so fly in
      if_so (by_flies records occupancy q) (sym (others q d) ∙ b.0, sym (ap (λ (x : Record). x.state) (kept q d)) ∙ b.1)

  still_flying : (q : ℕ) → (q ≡ r → ⊥) → flies records occupancy q ≡ true → flies after taken q ≡ true
  still_flying q d fly =
      let b = (by_flies records occupancy q).so fly in
      if_so (by_flies after taken q) (others q d ∙ b.0, ap (λ (x : Record). x.state) (kept q d) ∙ b.1)

  holds_more : (n m k : ℕ) (x : Record) → n ≤ m → Holds K n k x → Holds K m k x
  holds_more n m k x l h = record { begins = h.begins; ends = omega (arith, h.ends); counts = h.counts }

  each_taken : (q : ℕ) → q < record_count → flies after taken q ≡ true → Holds K (total + v.count) (firsts q) (record_at after q)
  each_taken q l fly =
      ⊎_elim
      (λ (e : q ≡ r).
      subst (λ (x : ℕ). Holds K (total + v.count) (firsts x) (record_at after x)) (sym e)
      (rw (here_first, written) (record { begins = at; ends = omega arith; counts = counts })))
      (λ (d : q ≡ r → ⊥). rw (other_first q d, kept q d)
      (holds_more total (total + v.count) (first q) (record_at records q) (omega arith) (f.each q l (was_flying q d fly))))
      (same_or_not q r)

  all_taken : (j : ℕ) → heard ≤ j → j < total + v.count → Owner after taken firsts j
  all_taken j h l =
      ⊎_elim
      (λ (old : j < total).
      let o = f.all j h old in
      let d : o.owner ≡ r → ⊥ = λ e. false≢true (sym free ∙ sym (ap (held occupancy) e) ∙ ((by_flies records occupancy o.owner).so o.flying).0) in
      record {
        owner = o.owner;
        within = o.within;
        flying = still_flying o.owner d o.flying;
        from = omega (arith, o.from, other_first o.owner d);
        to = omega (arith, o.to, other_first o.owner d, ap (λ (x : Record). x.count) (kept o.owner d));
      })
      (λ (new : total ≤ j).
      record {
        owner = r;
        within = within;
        flying = if_so (by_flies after taken r) (holds, ap (λ (x : Record). x.state) written ∙ flying);
        from = omega (arith, here_first);
        to = omega (arith, here_first, ap (λ (x : Record). x.count) written);
      })
      (lt_or_le j total)

  pub flights_taken : Flights K after taken firsts (total + v.count) heard
  flights_taken = record { each = each_taken; all = all_taken }

-- ---- the TD of a request

cons_of : (l : List Trb) → 0 < length l → (t : Trb) × ((ts : List Trb) × (l ≡ t ∷ ts))
cons_of [] h = absurd (omega arith)
cons_of (t ∷ ts) h = (t, (ts, refl))

module _ (K : ℕ) (e : Endpoint) (v : Record) (t : Trb) (ts : List Trb) where
  abbrev td_of : Td (flat K)
  td_of = record { first = bare t; rest = bared ts; link = link_words e v; deferred = deferred v }

-- What is under way after a start: a deferred TD opens; of any other the first TRB will be the controller's at once.
module _ (K : ℕ) (e : Endpoint) (records packets : List ℕ) (mark before : ℕ) (t : Trb) (ts : List Trb)
    (taken : e.work.busy ≡ true) (none_stored : e.work.stored ≡ 0) (are : left K e records packets ≡ bare t ∷ bared ts)
    (at : record { place = e.work.place; cycle = e.work.cycle } ≡ position_of e.at) (marked : before ≡ mark) where
  abbrev v : Record
  v = record_at records e.work.number

  under_by : (late : Bool) → deferred v ≡ late → Under K e records packets mark before (starts (td_of K e v t ts) late)
  under_by true late =
      opens (record {
        taken = taken;
        late = late;
        none_stored = none_stored;
        at_first = at;
        head = bare t;
        others = bared ts;
        left_are = are;
        marked = marked;
        is = refl;
      })
  under_by false early =
      shows (record { taken = taken; early = early; counted = omega arith; is = ap (λ (l : List Words). busy l (link_words e v) none) (sym are) })

  under_way_lem : Under K e records packets mark before (starts (td_of K e v t ts) (deferred v))
  under_way_lem = under_by (deferred v) refl

-- ---- an admitted start

module _ (w : World) (request : Request) (lengths : List ℕ) (h : Sound w.dock) (g : Agreed w) (k : Kept w) (fits : typed request.what ≡ true)
    (passed : start_no w.dock.endpoint w.dock.records (length w.dock.packets) request lengths ≡ 0) where
  abbrev e : Endpoint
  e = w.dock.endpoint

  abbrev old : List ℕ
  old = w.dock.records

  abbrev r : ℕ
  r = record_taken e

  abbrev id : ℕ
  id = id_taken e old

  abbrev trbs : List Trb
  trbs = trbs_of w.asked.settings request lengths

  abbrev begun_with : Endpoint
  begun_with = started_endpoint e old request lengths

  abbrev records : List ℕ
  records = started_records e old request lengths

  abbrev packets : List ℕ
  packets = write_packets w.dock.packets r request.what lengths

  s : Starting e old w.dock.packets request lengths
  s = start_admitted e old w.dock.packets request lengths passed

  -- The record that is kept of it.
  abbrev kept : Record
  kept = record_at records r

  written : record_at records r ≡ record_for request (length lengths) id e.at.place
  written = record_written e old w.dock.packets request lengths passed

  some_place : 0 < k.K
  some_place = omega (arith, k.some_slot)

  still : k.work ≡ idle
  still = idle_kept w k s.resting

  -- The producer stands at the number of the first TRB.
  producer_at : (pos k.K (length w.trbs)).place ≡ e.at.place
  producer_at =
      let off = (resting some_place (model_in k.K w k.before k.work) k.inv still).off_link in
      ap (λ (n : ℕ). (pos k.K n).place) (sym (all_stored w k s.resting)) ∙ next_at w k off

  -- What is to be stored are the TRBs of the request.
  to_store : left k.K begun_with records packets ≡ bared trbs
  unfolding started_endpoint
  to_store =
      let count : trb_count (record_for request (length lengths) id e.at.place) - 0 ≡ required request (length lengths) =
      omega (arith, count_is request lengths id e.at.place s.short) in
      rw (written, count)
      (ap bared
      (asked_for lengths id e.at.place r w.dock.packets h.packets_long
      (record_below e old w.dock.packets request lengths passed) begun_with refl refl request s.short fits refl
      ∙ same_trbs (settings_in begun_with) w.asked.settings request lengths g.packet g.burst))

  started_with : (t : Trb) (ts : List Trb) → trbs ≡ t ∷ ts
      → Kept (with_request w (state_of begun_with w.dock.ring w.dock.finished records packets) r request lengths)
  unfolding started_endpoint charged begin
  started_with t ts are =
      let K = k.K in
      let m = model_in K w k.before k.work in
      let td = td_of K begun_with kept t ts in
      let total = length w.trbs in
      let count : length trbs ≡ required request (length lengths) = trbs_count w.asked.settings request lengths in
      let count-t : length trbs ≡ suc (length ts) = ap length are in
      let bare-t : length (bared ts) ≡ length ts = bared_length ts in
      let before = length (model.layout (flat K) (pos K 0) (bared w.trbs)) in
      let may : MayBegin m td =
      record {
        none_under_way = still;
        running = refl;
        room = omega (arith, s.room, k.shape);
        plain = subst (λ (l : List Trb). Plain (flat K) (bared l)) are (trbs_plain K w.asked.settings request lengths);
        linked = link_is e.shape.base (chained begun_with kept);
      } in
      let inv = begin_keeps some_place m k.inv td may in
      let num = begin_numbered some_place m k.inv td still (bared w.trbs) k.numbered in
      let joined : bared w.trbs ++ bare t ∷ bared ts ≡ bared (w.trbs ++ trbs) =
      sym (bared_append w.trbs trbs ∙ ap (λ (l : List Trb). bared w.trbs ++ bared l) are) in
      let same : begin m td ≡ model_in K (with_request w (state_of begun_with w.dock.ring w.dock.finished records packets) r request lengths) before
      (starts td (deferred kept)) =
      ap₂ (λ (a : List (model.Entry (flat K))) (o : ℕ). model.booked m (starts td (deferred kept)) a before o)
      (num.by_number ∙ ap (model.layout (flat K) (pos K 0)) joined) (omega arith) in
      let all = all_stored w k s.resting in
      let here : with_number w.first r total r ≡ total = (let q : eqb r r ≡ true = eq-eqb r r refl in rw q refl) in
      let its : trb_count (record_at records r) ≡ required request (length lengths) =
      ap trb_count written ∙ count_is request lengths id e.at.place s.short in
      let last : with_number w.first r total r + trb_count (record_at records r) ≡ length (w.trbs ++ trbs) =
      omega (arith, length-append w.trbs trbs) in
      let is-taken = record_taken_lem e old w.dock.packets request lengths passed in
      let longer : length (w.trbs ++ trbs) ≡ total + required request (length lengths) = omega (arith, length-append w.trbs trbs) in
      record {
        K = K;
        some_slot = k.some_slot;
        shape = k.shape;
        link_slot = k.link_slot;
        before = before;
        work = starts td (deferred kept);
        inv = subst (λ (x : model.State (flat K)). Inv x) same inv;
        numbered = subst (λ (x : model.State (flat K)). Numbered x (bared (w.trbs ++ trbs))) same (rw joined at num);
        under =
            under_way_lem K begun_with records packets (with_number w.first r total r) before t ts refl refl (to_store ∙ ap bared are) refl
            (length_layout (flat K) (pos K 0) (bared w.trbs) ∙ bared_length w.trbs ∙ sym here);
        begun = λ b. record { last = last; first_at_lem = ap (λ (n : ℕ). (pos K n).place) here ∙ producer_at };
        stored = k.stored;
        split = rw (starts_pending td (deferred kept)) (omega arith);
        heard_consumed = k.heard_consumed;
        places = k.places;
        flights = rw longer
            (flights_taken K old records e.account.occupancy begun_with.account.occupancy w.first total
            w.heard r (record_for request (length lengths) id e.at.place)
            (record_below e old w.dock.packets request lengths passed) (record_free e old w.dock.packets request lengths passed)
            is-taken.here is-taken.others
            written (records_kept e old w.dock.packets request lengths passed) refl producer_at
            (record_counts request (length lengths) id e.at.place) k.flights);
      }

  pub admitted_kept : Kept (with_request w (state_of begun_with w.dock.ring w.dock.finished records packets) r request lengths)
  admitted_kept =
      let c = cons_of trbs (omega (arith, trbs_count w.asked.settings request lengths, required_some request.what request.length (length lengths))) in
      started_with c.0 c.1.0 c.1.1

-- ---- the call

pub started_kept : (w : World) (request : Request) (lengths : List ℕ) → Sound w.dock → Agreed w → Kept w → typed request.what ≡ true
    → Kept (act w (calls (dock.starts request lengths)))
started_kept w request lengths h g k fits =
    let e = w.dock.endpoint in
    let old = w.dock.records in
    ⊎_elim
    (λ (p : start_no e old (length w.dock.packets) request lengths ≡ 0).
    rw (start_yes w request lengths p, start_acts e old w.dock.packets request lengths p) (admitted_kept w request lengths h g k fits p))
    (λ (p : start_no e old (length w.dock.packets) request lengths ≡ 0 → ⊥).
    rw (start_no_lem w request lengths p, start_refuses e old w.dock.packets request lengths p) k)
    (same_or_not (start_no e old (length w.dock.packets) request lengths) 0)

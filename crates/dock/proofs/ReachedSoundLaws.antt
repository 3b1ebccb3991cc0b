-- Every call keeps the invariant, so every state that is reached from making has it (`reached_sound`). Assumes nothing.
use Rattle.std.specs.Prelude.{Option, Some, None, Err, ⊤, Result}
use Prim.Native.Nat.{ℕ, ◌+◌, ◌-◌, ◌*◌, ◌/◌, ◌%◌, ◌<◌, ◌≤◌}
use mathlib.Core.Bool.{Bool, true, false, ◌&&◌, ◌||◌, and-eq-true_iff}
use mathlib.Core.List.{List, [], ◌∷◌}
use mathlib.Core.Logic.{◌⊎◌, inl, inr, ⊎_elim}
use mathlib.Core.Path.{◌≡◌, refl, sym, ap, ◌∙◌, subst}
use native.Mathlib.Omega.{arith}
use borrow.Author.Tests.{eqb-true, ltb-true, ltb-false, not-false}
use lib.Dec.{eqb, ltb, leb}
use lib.ListN.{length, get_or, length-replicate}
use lib.Seq.{length-paste}
use Rattle.base.proofs.Chosen.{quiet}
use Rattle.base.proofs.Decide.{Decides, both, by_eqb, by_ltb, by_leb, by_true, by_false}
use Rattle.mask.specs.Occupancy.{held, LowestFree, Tells}
use Rattle.mask.specs.Occupancy as masks
use Rattle.mask.specs.declared.Occupancy.{Occupancy}
use Rattle.mask.proofs.OccupancyLaws.{none_free, none_sized, lowest_tells}
use Rattle.sizes.specs.Sizes.{ring_size, record_count, records_size, packet_count, packets_size}
use Rattle.ids.specs.Free.{id_at, held_by}
use Rattle.ids.specs.Lookup.{find_in, Lowest, Finds}
use Rattle.ids.proofs.AnyLaws.{true_or_false, never_both, by_held}
use Rattle.ids.proofs.LookupLaws.{find_finds}
use Rattle.trb.specs.Layouts.{put_words}
use Rattle.trb.specs.declared.Words.{Words}
use Rattle.trb.proofs.BlockLaws.{words_length}
use Rattle.ring.specs.Ring.{is_slot, slot_of}
use Rattle.ring.proofs.RuleLaws.{store_length}
use Rattle.finished.specs.Finished.{fill_place}
use Rattle.records.specs.Kinds.{kind_is, isoch}
use Rattle.records.proofs.KindLaws.{eq_kind}
use Rattle.records.specs.States.{state_is, in_flight, stopped}
use Rattle.records.specs.Records.{cancelled_word, record_at}
use Rattle.records.proofs.StateLaws.{state_true, eq_state, flying_not_stopped}
use Rattle.records.specs.declared.Record.{Record}
use Rattle.event.specs.Event.{event_of}
use Rattle.dock.specs.declared.After.{After}
use Rattle.dock.specs.declared.ResetCommands.{ResetCommands}
use Rattle.dock.specs.declared.Stored.{Stored}
use Rattle.dock.specs.declared.Refusal.{Refusal}
use Rattle.dock.specs.declared.Reclaimed.{Reclaimed}
use Rattle.dock.specs.declared.Refusal.{Refusal}
use Rattle.dock.specs.Refusals.{done}
use Rattle.dock.specs.declared.Endpoint.{Endpoint}
use Rattle.dock.specs.declared.Identity.{Identity}
use Rattle.dock.specs.declared.Request.{Request}
use Rattle.dock.specs.declared.Shape.{Shape}
use Rattle.dock.specs.declared.What.{What}
use Rattle.dock.specs.declared.What.TheVariants.{Control, Bulk, Interrupt, Isoch}
use Rattle.dock.specs.Limits.{limits_hold}
use Rattle.dock.specs.State.{fresh, idle, with_store}
use Rattle.dock.specs.RowOne.{place_fits, fits, fits_with, strays, Next, the_link, the_trb, the_first, none, next_of, is_none}
use Rattle.dock.specs.Make.{make_tests, make_no, make, zeros}
use Rattle.dock.specs.Configure.{plain_no, configure}
use Rattle.dock.specs.Requests.{record_for}
use Rattle.dock.specs.Start.{too_long, is_full, start_tests, start_no, record_taken, number_from, id_taken, charged, at_least_one, write_packets, started_endpoint, started_records, start, some_over, sum_of}
use Rattle.dock.specs.Trbs.{trb_of, deferred, first_trb, link_for}
use Rattle.dock.specs.NextStore.{store_tests, store_no, stepped, ring_stored, finished_stored, settled, first_cycle}
use Rattle.dock.specs.NextStore as storing
use Rattle.dock.specs.HandOver.{slot_number, slot_for, hand_over_no, hand_over}
use Rattle.dock.specs.Reclaim.{final, leave, nothing, bad_record, reclaim_tests, reclaim_no, reclaim_flying, reclaim_found, reclaim}
use Rattle.dock.specs.Cancel.{marked, cancel_no, cancel}
use Rattle.dock.specs.Retire.{record_tests, record_no, retired_below, retire}
use Rattle.dock.specs.Reset.{begin_no, begin_reset, end_no, end_reset}
use Rattle.dock.specs.Run.{State, state_of, made_of, Made, making, Call, configures, starts, stores, submits, hands, reclaims, cancels, retires, begins, ends, stops, resumes, points, after, Reached}
use Rattle.dock.proofs.Reached.{flight_part, flight_sum, Books, Sound, reached_has}
use Rattle.dock.proofs.ReachedBookLaws.{Alike, alike_same, alike_set, flies_alike, books_alike, books_freed, books_taken, taken_long, taken_flies, part_flies, part_none}
use Rattle.dock.proofs.RefusalTestLaws.{by_limits, by_sized, on_course}
use Rattle.dock.proofs.StoreNextLaws.{because}
use Rattle.dock.proofs.RetireLaws.{picked, sum_none, retiring, books_retired}
use Rattle.dock.proofs.SubmitLaws.{submit_keeps}
use Rattle.dock.proofs.ReclaimLaws.{Left, own_record_same, own_packets_same, Touches, flying_touches}

-- ---- tests that were passed

pub either_true : (a b : Bool) → (a || b) ≡ true → (a ≡ true) ⊎ (b ≡ true)
either_true true b e = inl refl
either_true false b e = inr e

pub both_false : (a b : Bool) → (a || b) ≡ false → (a ≡ false) × (b ≡ false)
both_false true b e = absurd (never_both refl e)
both_false false b e = (refl, e)

pub left_true : (a b : Bool) → (a && b) ≡ true → a ≡ true
left_true a b e = ((and-eq-true_iff a b).0 e).0

pub right_true : (a b : Bool) → (a && b) ≡ true → b ≡ true
right_true a b e = ((and-eq-true_iff a b).0 e).1

-- ---- calls that keep shape, identity, account and records

pub record Follows (e after : Endpoint) : Type 0 where
  pub shape : after.shape ≡ e.shape
  pub who : after.who ≡ e.who
  pub account : after.account ≡ e.account
  pub work : after.work.busy ≡ true → (e.work.busy ≡ true) × (after.work.number ≡ e.work.number)

pub follows_same : (e : Endpoint) → Follows e e
follows_same e = record { shape = refl; who = refl; account = refl; work = λ b. (b, refl) }

pub follows_sound : (s : State) (e : Endpoint) (ring finished : List ℕ) → Sound s → Follows s.endpoint e
    → length ring ≡ length s.ring → length finished ≡ length s.finished → Sound (state_of e ring finished s.records s.packets)
follows_sound s e ring finished h f r t = record {
  limits =
      rw (f.shape, f.who) h.limits;
  ring_long = rw f.shape (r ∙ h.ring_long);
  finished_long = rw f.shape (t ∙ h.finished_long);
  records_long = h.records_long;
  packets_long = h.packets_long;
  books = rw f.account h.books;
  underway = λ b. let w = f.work b in rw (f.account, w.1) (h.underway w.0);
}

-- ---- making

pub not_done : (why : Refusal) → Err why ≡ done → ⊥
not_done why e = let z : ◌≡◌ {A = ℕ} 0 1 = cc in omega arith

module _ (ring finished records packets : List ℕ) (shape : Shape) (who : Identity) where
  zeros_long : (l : List ℕ) (n : ℕ) → length l ≡ n → length (zeros l) ≡ n
  zeros_long l n e = length-replicate (length l) 0 ∙ e

  none_held : (r : ℕ) → held masks.none r ≡ true → ⊥
  none_held r h = never_both h (none_free r)

  books_fresh : (l : List ℕ) → Books (fresh shape who).account l
  unfolding flight_sum
  books_fresh l = record {
    next_above = omega arith;
    next_below = omega arith;
    occupancy_sized = none_sized;
    states = λ r l h. absurd (none_held r h);
    id_above = λ r l h. absurd (none_held r h);
    id_below = λ r l h. absurd (none_held r h);
    distinct = λ r q l m h g e. absurd (none_held r h);
    outstanding_sum = sym (sum_none record_count (flight_part l masks.none) (λ r k. part_none l masks.none r (λ h. none_held r h.0)));
  }

  pub fresh_sound : make_no (length ring) (length finished) (length records) (length packets) shape who ≡ 0
      → Sound (state_of (fresh shape who) (zeros ring) (zeros finished) (zeros records) (zeros packets))
  unfolding make_no make_tests
  fresh_sound t =
      let ts = make_tests (length ring) (length finished) (length records) (length packets) shape who in
      let sizes = (by_sized shape.slots (length ring) (length finished) (length records) (length packets)).so (not-false _ (quiet ts 1 refl t (omega arith))) in
      record {
        limits = not-false _ (quiet ts 0 refl t (omega arith));
        ring_long = zeros_long ring (ring_size shape.slots) sizes.ring_size_lem;
        finished_long = zeros_long finished (ring_size shape.slots) sizes.finished_size;
        records_long = zeros_long records records_size sizes.records_size_lem;
        packets_long = zeros_long packets packets_size sizes.packets_size_lem;
        books = books_fresh (zeros records);
        underway = λ b. absurd (never_both b refl);
      }

  make_sound : (make ring finished records packets shape who).0.answer ≡ done
      → Sound (made_of (make ring finished records packets shape who))
  unfolding make
  make_sound =
      picked
      (λ (t : After ⊤ × List ℕ × List ℕ × List ℕ × List ℕ). t.0.answer ≡ done → Sound (made_of t))
      (eqb (make_no (length ring) (length finished) (length records) (length packets) shape who) 0)
      _ _
      (λ t d. fresh_sound (eqb-true _ _ t))
      (λ t d. absurd (not_done _ d))

made_sound : (s : State) → Made s → Sound s
made_sound s (making ring finished records packets shape who done) = make_sound ring finished records packets shape who done

-- ---- configuring and resetting

configure_sound : (s : State) (packet burst interval : ℕ) → Sound s → Sound (after s (configures packet burst interval))
unfolding configure
configure_sound s packet burst interval h =
    picked (λ (c : After ⊤). Sound (state_of c.endpoint s.ring s.finished s.records s.packets)) (eqb (plain_no s.endpoint) 0) _ _
    (λ t. follows_sound s _ s.ring s.finished h (record { shape = refl; who = refl; account = refl; work = λ b. (b, refl) }) refl refl)
    (λ t. h)

begin_sound : (s : State) → Sound s → Sound (after s begins)
unfolding begin_reset
begin_sound s h =
    picked (λ (c : After (Option ResetCommands)). Sound (state_of c.endpoint s.ring s.finished s.records s.packets)) (eqb (begin_no s.endpoint s.records) 0) _ _
    (λ t. picked (λ (c : After (Option ResetCommands)). Sound (state_of c.endpoint s.ring s.finished s.records s.packets)) s.endpoint.flags.halted _ _
    (λ u. follows_sound s _ s.ring s.finished h (record { shape = refl; who = refl; account = refl; work = λ b. (b, refl) }) refl refl)
    (λ u. h))
    (λ t. h)

end_sound : (s : State) (worked : Bool) → Sound s → Sound (after s (ends worked))
unfolding end_reset
end_sound s worked h =
    picked (λ (c : After ⊤). Sound (state_of c.endpoint s.ring s.finished s.records s.packets)) (eqb (end_no s.endpoint) 0) _ _
    (λ t. follows_sound s _ s.ring s.finished h (record { shape = refl; who = refl; account = refl; work = λ b. (b, refl) }) refl refl)
    (λ t. h)

-- ---- the start of a submission

taken_free : (o : Occupancy) (f : Option ℕ) → is_full f ≡ false → Tells o f → LowestFree o (number_from f)
taken_free o (Some i) t a = a
taken_free o None t a = absurd (never_both refl t)

at_least_one_lem : (lengths : List ℕ) → length lengths ≤ packet_count → length (at_least_one lengths) ≤ packet_count
at_least_one_lem [] h = omega arith
at_least_one_lem (n ∷ ns) h = h

-- The packets of a request that is not too long lie within its record's.
written_long : (packets : List ℕ) (r : ℕ) (what : What) (size : ℕ) (lengths : List ℕ) → too_long what size lengths ≡ false → r < record_count
    → length packets ≡ packets_size → length (write_packets packets r what lengths) ≡ packets_size
unfolding write_packets too_long
written_long packets r (Control type request value index) size lengths t l h = h
written_long packets r (Bulk incoming) size lengths t l h = h
written_long packets r (Interrupt incoming) size lengths t l h = h
written_long packets r (Isoch incoming) size lengths t l h =
    let first = (both_false (ltb packet_count (length lengths) || some_over lengths) (ltb size (sum_of lengths)) t).0 in
    let few = ltb-false packet_count (length lengths) (both_false (ltb packet_count (length lengths)) (some_over lengths) first).0 in
    let small = at_least_one_lem lengths few in
    length-paste packets (packet_count * r) (at_least_one lengths) (length (at_least_one lengths)) (omega arith) (omega arith) ∙ h

module _ (s : State) (request : Request) (lengths : List ℕ) (h : Sound s)
    (t : start_no s.endpoint s.records (length s.packets) request lengths ≡ 0) where
  pub taken : LowestFree s.endpoint.account.occupancy (record_taken s.endpoint)
  unfolding start_no start_tests record_taken
  taken =
      taken_free s.endpoint.account.occupancy (masks.lowest s.endpoint.account.occupancy)
      (quiet (start_tests s.endpoint s.records (length s.packets) request lengths) 5 refl t (omega arith))
      (lowest_tells s.endpoint.account.occupancy)

  pub short : too_long request.what request.length lengths ≡ false
  unfolding start_no start_tests
  short = quiet (start_tests s.endpoint s.records (length s.packets) request lengths) 4 refl t (omega arith)

  pub started_sound :
      Sound
      (state_of (started_endpoint s.endpoint s.records request lengths) s.ring s.finished
      (started_records s.endpoint s.records request lengths)
      (write_packets s.packets (record_taken s.endpoint) request.what lengths))
  unfolding started_endpoint started_records id_taken charged
  started_sound =
      let e = s.endpoint in
      let v = record_for request (length lengths) (id_taken e s.records) e.at.place in
      let r = record_taken e in
      record {
        limits = h.limits;
        ring_long = h.ring_long;
        finished_long = h.finished_long;
        records_long = taken_long e.account s.records r v taken.within taken.free h.records_long refl refl h.books;
        packets_long = written_long s.packets r request.what request.length lengths short taken.within h.packets_long;
        books = books_taken e.account s.records r v taken.within taken.free h.records_long refl refl h.books;
        underway = λ b. record {
          within = taken.within;
          flying = taken_flies e.account s.records r v taken.within taken.free h.records_long refl refl h.books;
        };
      }

start_sound : (s : State) (request : Request) (lengths : List ℕ) → Sound s → Sound (after s (starts request lengths))
unfolding start
start_sound s request lengths h =
    picked (λ (a : After ⊤ × List ℕ × List ℕ). Sound (state_of a.0.endpoint s.ring s.finished a.1 a.2))
    (eqb (start_no s.endpoint s.records (length s.packets) request lengths) 0) _ _
    (λ t. started_sound s request lengths h (eqb-true _ _ t))
    (λ t. h)

-- ---- a store

-- Row 1 by its own tests; in plain facts it is `by_fits` and `by_fits_with` of RefusalTestLaws.
pub fits_parts : (e : Endpoint)
    → Decides (fits e) (((limits_hold e.shape e.who ≡ true) × (place_fits e ≡ true)) × (eqb e.account.next 0 ≡ false))
unfolding fits
fits_parts e = both (both (by_true _) (by_true (place_fits e))) (by_false (eqb e.account.next 0))

pub fits_with_parts : (e : Endpoint) (records : List ℕ)
    → Decides (fits_with e records) (((fits e ≡ true) × (length records ≡ records_size)) × (strays e records ≡ false))
unfolding fits_with
fits_with_parts e records = both (both (by_true (fits e)) (by_eqb (length records) records_size)) (by_false (strays e records))

-- A place that fits is one of the slots.
module _ (e : Endpoint) (p : place_fits e ≡ true) where
  pub place_slot : e.at.place + 1 ≤ e.shape.slots
  unfolding place_fits
  place_slot =
      let plain = ltb (e.at.place + 1) e.shape.slots in
      let last = eqb (e.at.place + 1) e.shape.slots in
      let more = last && e.work.busy && ltb 0 e.work.stored in
      ⊎_elim
      (λ t. omega (arith, ltb-true (e.at.place + 1) e.shape.slots t))
      (λ t.
      let two = left_true (last && e.work.busy) (ltb 0 e.work.stored) t in
      omega (arith, eqb-true (e.at.place + 1) e.shape.slots (left_true last e.work.busy two)))
      (either_true plain more p)

module _ (e : Endpoint) (p : place_fits e ≡ true) (b : e.work.busy ≡ true) (v : Record) (packets : List ℕ) where
  ring_long_lem : (n : Next) → next_of e v ≡ n → (deferred v ≡ true → e.work.place + 1 < e.shape.slots) → (ring : List ℕ) → length ring ≡ ring_size e.shape.slots
      → length (ring_stored n e v packets ring) ≡ length ring
  unfolding ring_stored
  ring_long_lem the_link next low ring l = store_length ring e.at.place (link_for e v) e.at.cycle (omega (arith, place_slot e p))
  ring_long_lem the_trb next low ring l = store_length ring e.at.place (trb_of e v packets e.work.stored) (first_cycle e v) (omega (arith, place_slot e p))
  ring_long_lem the_first next low ring l = store_length ring e.work.place (first_trb e v packets) e.work.cycle (omega (arith, low (because e v the_first next).1))
  ring_long_lem none next low ring l = refl

  finished_long_lem : (n : Next) (finished : List ℕ) → length finished ≡ ring_size e.shape.slots → length (finished_stored n e finished) ≡ length finished
  unfolding finished_stored
  finished_long_lem the_link finished l = refl
  finished_long_lem the_trb finished l = words_length finished e.at.place (record { w0 = 0; w1 = 0; w2 = 0; w3 = 0 }) (omega (arith, place_slot e p))
  finished_long_lem the_first finished l = refl
  finished_long_lem none finished l = refl

  pub stepped_follows : (n : Next) → Follows e (stepped n e v packets)
  unfolding stepped
  stepped_follows the_link = record { shape = refl; who = refl; account = refl; work = λ w. (b, refl) }
  stepped_follows the_trb = record { shape = refl; who = refl; account = refl; work = λ w. (b, refl) }
  stepped_follows the_first = record { shape = refl; who = refl; account = refl; work = λ w. (b, refl) }
  stepped_follows none = follows_same e

pub settled_follows : (e after : Endpoint) (v : Record) → Follows e after → Follows e (settled after v)
unfolding settled
settled_follows e after v f =
    picked (Follows e) (is_none (next_of after v)) (with_store after after.at after.periodic.frame idle) after
    (λ t. record { shape = f.shape; who = f.who; account = f.account; work = λ w. absurd (never_both w refl) })
    (λ t. f)

module _ (s : State) (h : Sound s) where
  abbrev refusal : ℕ
  refusal = store_no s.endpoint (length s.ring) (length s.finished) s.records (length s.packets)

  pub store_busy : refusal ≡ 0 → s.endpoint.work.busy ≡ true
  unfolding store_no store_tests
  store_busy t = not-false _ (quiet (store_tests s.endpoint (length s.ring) (length s.finished) s.records (length s.packets)) 1 refl t (omega arith))

  store_fits : refusal ≡ 0 → (place_fits s.endpoint ≡ true) × (strays s.endpoint s.records ≡ false)
  unfolding store_no store_tests
  store_fits t =
      let e = s.endpoint in
      let row = not-false _ (quiet (store_tests e (length s.ring) (length s.finished) s.records (length s.packets)) 0 refl t (omega arith)) in
      let all = (both (both (both (fits_with_parts e s.records) (by_eqb (length s.ring) (ring_size e.shape.slots))) (by_eqb (length s.finished) (ring_size e.shape.slots))) (by_eqb (length s.packets) packets_size)).so row in
      (((fits_parts e).so all.0.0.0.0.0).0.1, all.0.0.0.1)

  store_sound : Sound (after s stores)
  unfolding storing.store
  store_sound =
      let e = s.endpoint in
      let v = record_at s.records e.work.number in
      let n = next_of e v in
      picked (λ (a : After Stored × List ℕ × List ℕ). Sound (state_of a.0.endpoint a.1 a.2 s.records s.packets)) (eqb refusal 0) _ _
      (λ t.
      let p = (store_fits (eqb-true _ _ t)).0 in
      let b = store_busy (eqb-true _ _ t) in
      follows_sound s _ _ _ h
      (settled_follows e (stepped n e v s.packets) v (stepped_follows e p b v s.packets n))
      (ring_long_lem e p b v s.packets n refl (on_course e s.records (store_fits (eqb-true _ _ t)).1 b).first s.ring h.ring_long)
      (finished_long_lem e p b v s.packets n s.finished h.finished_long))
      (λ t. h)

-- ---- an event handed over

pub fill_long : (finished : List ℕ) (i : ℕ) (event : Words) → 4 * i + 4 ≤ length finished → length (fill_place finished i event) ≡ length finished
unfolding fill_place
fill_long finished i event l =
    picked (λ (x : List ℕ). length x ≡ length finished) (eqb (get_or finished (4 * i + 3) 0) 0) (put_words finished i event) finished (λ t. words_length finished i event l) (λ t. refl)

by_is_slot : (base slots address : ℕ) → is_slot base slots address ≡ true → (address - base) / 16 < slots
unfolding is_slot
by_is_slot base slots address t = ((both (both (by_leb base address) (by_eqb ((address - base) % 16) 0)) (by_ltb ((address - base) / 16) slots)).so t).1

pub slot_below : (base slots address : ℕ) → 0 < slots → slot_number (slot_of base slots address) < slots
unfolding slot_of
slot_below base slots address l =
    picked (λ (x : Option ℕ). slot_number x < slots) (is_slot base slots address) (Some ((address - base) / 16)) None (by_is_slot base slots address) (λ t. l)

pub slots_some : (s : State) → Sound s → 3 ≤ s.endpoint.shape.slots
slots_some s h = ((by_limits s.endpoint.shape s.endpoint.who).so h.limits).slots_least

hand_sound : (s : State) (event : Words) → Sound s → Sound (after s (hands event))
unfolding hand_over slot_for
hand_sound s event h =
    let e = s.endpoint in
    picked (λ (a : Result ℕ Refusal × List ℕ). Sound (state_of s.endpoint s.ring a.1 s.records s.packets)) (eqb (hand_over_no e (length s.finished) event) 0) _ _
    (λ t.
    let below = slot_below e.shape.base e.shape.slots (event_of event).address (omega (arith, slots_some s h)) in
    follows_sound s e s.ring _ h (follows_same e) refl (fill_long s.finished _ event (omega (arith, h.finished_long))))
    (λ t. h)

-- ---- a cancel

pub marked_alike : (records : List ℕ) (f : Option ℕ) → Alike records (marked records f)
marked_alike records None = alike_same records
marked_alike records (Some r) = alike_set records r cancelled_word _ (omega arith) (λ e. omega arith) (λ e. omega arith) (λ e. omega arith) (λ e. omega arith)

-- Ids, states and counts as they were, and packets of the same length: the invariant holds on.
pub alike_sound : (s : State) (records packets : List ℕ) → Sound s → Alike s.records records → length packets ≡ length s.packets
    → Sound (state_of s.endpoint s.ring s.finished records packets)
alike_sound s records packets h k p = record {
  limits = h.limits;
  ring_long = h.ring_long;
  finished_long = h.finished_long;
  records_long = k.long ∙ h.records_long;
  packets_long = p ∙ h.packets_long;
  books = books_alike s.endpoint.account s.records records h.books k;
  underway = λ b. let w = h.underway b in record { within = w.within; flying = flies_alike s.records records s.endpoint.account.occupancy s.endpoint.work.number k ∙ w.flying };
}

cancel_sound : (s : State) (id : ℕ) → Sound s → Sound (after s (cancels id))
unfolding cancel
cancel_sound s id h =
    let e = s.endpoint in
    picked (λ (a : Result ⊤ Refusal × List ℕ). Sound (state_of e s.ring s.finished a.1 s.packets)) (eqb (cancel_no e s.records id) 0) _ _
    (λ t. alike_sound s _ s.packets h (marked_alike s.records (find_in s.records e.account.occupancy id)) refl)
    (λ t. h)

-- ---- a retire

retire_sound : (s : State) → Sound s → Sound (after s retires)
unfolding retire record_no record_tests
retire_sound s h =
    let e = s.endpoint in
    let after = retired_below record_count e.account.occupancy e.account.outstanding s.records in
    let all = retiring e.account.occupancy e.account.outstanding s.records h.records_long record_count (omega arith) in
    picked (λ (a : After ⊤ × List ℕ). Sound (state_of a.0.endpoint s.ring s.finished a.1 s.packets)) (eqb (record_no e s.records) 0) _ _
    (λ t. record {
      limits = h.limits;
      ring_long = h.ring_long;
      finished_long = h.finished_long;
      records_long = all.long ∙ h.records_long;
      packets_long = h.packets_long;
      books = books_retired e.account s.records h.records_long h.books;
      underway = λ b. absurd (never_both b (quiet (record_tests e s.records) 1 refl (eqb-true _ _ t) (omega arith)));
    })
    (λ t. h)

-- ---- a reclaim

-- All is as it was, and the request is not over.
pub record Untouched (s : State) (t : After Reclaimed × List ℕ × List ℕ) : Type 0 where
  pub endpoint : t.0.endpoint ≡ s.endpoint
  pub records : t.1 ≡ s.records
  pub packets : t.2 ≡ s.packets
  pub unended : final t.0.answer ≡ false

-- The id's record was looked at, in a call that is not refused.
pub record Looked (s : State) (id : ℕ) (t : After Reclaimed × List ℕ × List ℕ) : Type 0 where
  pub number : ℕ
  pub lowest : Lowest record_count (held_by (held s.endpoint.account.occupancy) (id_at s.records) id) number
  pub allowed : reclaim_no s.endpoint (length s.finished) s.records (length s.packets) id ≡ 0
  pub touches : Touches s.endpoint s.records s.packets number (flight_part s.records s.endpoint.account.occupancy number) t

-- The packets of a record that is not bad are at most 64, where it has any.
pub few_packets : (e : Endpoint) (v : Record) → (state_is v.state in_flight && (leb e.shape.slots (v.place + 1) || (kind_is v.kind isoch && ltb packet_count v.count))) ≡ false
    → v.state ≡ in_flight → v.kind ≡ isoch → v.count ≤ packet_count
few_packets e v f state kind =
    ⊎_elim
    (λ (t : ltb packet_count v.count ≡ true).
    absurd (never_both
    ((and-eq-true_iff _ _).1 (eq_state v.state in_flight state, or_right (leb e.shape.slots (v.place + 1)) _ ((and-eq-true_iff _ _).1 (eq_kind v.kind isoch kind, t))))
    f))
    (λ (t : ltb packet_count v.count ≡ false). ltb-false packet_count v.count t)
    (true_or_false (ltb packet_count v.count))
  where
    or_right : (a b : Bool) → b ≡ true → (a || b) ≡ true
    or_right true b e = refl
    or_right false b e = e

-- A call that is not refused is lent records of the right size.
reclaim_long : (e : Endpoint) (finished : ℕ) (records : List ℕ) (packets id : ℕ) → reclaim_no e finished records packets id ≡ 0 → length records ≡ records_size
unfolding reclaim_no reclaim_tests
reclaim_long e finished records packets id t =
    let row = not-false _ (quiet (reclaim_tests e finished records packets id) 0 refl t (omega arith)) in
    ((both (both (fits_with_parts e records) (by_eqb finished (ring_size e.shape.slots))) (by_eqb packets packets_size)).so row).0.0.0.1

module _ (s : State) (id : ℕ) (allows : reclaim_no s.endpoint (length s.finished) s.records (length s.packets) id ≡ 0) where
  abbrev Reclaims : After Reclaimed × List ℕ × List ℕ → Type 0
  Reclaims t = Untouched s t ⊎ Looked s id t

  at_record : (r : ℕ) → Lowest record_count (held_by (held s.endpoint.account.occupancy) (id_at s.records) id) r
      → bad_record s.endpoint s.records (Some r) ≡ false
      → Reclaims (reclaim_found (Some r) s.endpoint s.finished s.records s.packets)
  at_record r low bad =
      let e = s.endpoint in
      let v = record_at s.records r in
      let mine = (by_held (held e.account.occupancy) (id_at s.records) id r).so low.here in
      let part = flight_part s.records e.account.occupancy r in
      let own = own_record_same r s.records in
      let same = own_packets_same r s.packets in
      picked Reclaims (state_is v.state stopped) _ _
      (λ t.
      let gone : part ≡ 0 = part_none s.records e.account.occupancy r (λ f. flying_not_stopped v.state f.1 (state_true v.state stopped t)) in
      inr (record {
        number = r;
        lowest = low;
        allowed = allows;
        touches = record { end = inr (record { halts = false; gone = ap (λ (n : ℕ). leave e r n false) (sym gone); over = refl }); own_record = own; own_packets = same };
      }))
      (λ t. picked Reclaims (state_is v.state in_flight) _ _
      (λ u.
      let flying = state_true v.state in_flight u in
      let whole : v.count ≡ part = sym (part_flies s.records e.account.occupancy r mine.0 flying) in
      inr (record {
        number = r;
        lowest = low;
        allowed = allows;
        touches = subst (λ (n : ℕ). Touches e s.records s.packets r n (reclaim_flying e s.finished s.records s.packets v r)) whole
            (flying_touches e s.finished s.records s.packets r low.within (reclaim_long e (length s.finished) s.records (length s.packets) id allows)
            (few_packets e v bad flying));
      }))
      (λ u. inl (record { endpoint = refl; records = refl; packets = refl; unended = refl })))

  found : (f : Option ℕ) → Finds record_count (held_by (held s.endpoint.account.occupancy) (id_at s.records) id) f
      → bad_record s.endpoint s.records f ≡ false → Reclaims (reclaim_found f s.endpoint s.finished s.records s.packets)
  found None low bad = inl (record { endpoint = refl; records = refl; packets = refl; unended = refl })
  found (Some r) low bad = at_record r low bad

-- What a reclaim does, in every state.
pub reclaim_result : (s : State) (id : ℕ)
    → Untouched s (reclaim s.endpoint s.finished s.records s.packets id) ⊎ Looked s id (reclaim s.endpoint s.finished s.records s.packets id)
unfolding reclaim reclaim_no reclaim_tests
reclaim_result s id =
    let e = s.endpoint in
    let ts = reclaim_tests e (length s.finished) s.records (length s.packets) id in
    picked (λ (t : After Reclaimed × List ℕ × List ℕ). Untouched s t ⊎ Looked s id t)
    (eqb (reclaim_no e (length s.finished) s.records (length s.packets) id) 0) _ _
    (λ t.
    found s id (eqb-true _ _ t) (find_in s.records e.account.occupancy id)
    (find_finds record_count (held e.account.occupancy) (id_at s.records) id)
    (quiet ts 1 refl (eqb-true _ _ t) (omega arith)))
    (λ t. inl (record { endpoint = refl; records = refl; packets = refl; unended = refl }))

-- A call that is not refused finds no submission under way.
pub reclaim_idle : (e : Endpoint) (finished : ℕ) (records : List ℕ) (packets id : ℕ) → reclaim_no e finished records packets id ≡ 0 → e.work.busy ≡ false
unfolding reclaim_no reclaim_tests
reclaim_idle e finished records packets id t = quiet (reclaim_tests e finished records packets id) 2 refl t (omega arith)

-- A record that is freed, with nothing under way, keeps the invariant.
leave_sound : (s : State) (r : ℕ) (halts : Bool) → r < record_count → Sound s → s.endpoint.work.busy ≡ false
    → Sound (state_of (leave s.endpoint r (flight_part s.records s.endpoint.account.occupancy r) halts) s.ring s.finished s.records s.packets)
unfolding leave
leave_sound s r halts l h idle = record {
  limits = h.limits;
  ring_long = h.ring_long;
  finished_long = h.finished_long;
  records_long = h.records_long;
  packets_long = h.packets_long;
  books = books_freed s.endpoint.account s.records r l _ refl h.books;
  underway = λ b. absurd (never_both b idle);
}

reclaim_sound : (s : State) (id : ℕ) → Sound s → Sound (after s (reclaims id))
reclaim_sound s id h =
    let t = reclaim s.endpoint s.finished s.records s.packets id in
    ⊎_elim
    (λ (u : Untouched s t). rw (u.endpoint, u.records, u.packets) h)
    (λ (u : Looked s id t).
    let k = u.touches in
    ⊎_elim
    (λ (n : t.0 ≡ nothing s.endpoint). rw n (alike_sound s t.1 t.2 h k.own_record.alike k.own_packets.long))
    (λ (n : Left s.endpoint u.number (flight_part s.records s.endpoint.account.occupancy u.number) t.0).
    let idle = reclaim_idle s.endpoint (length s.finished) s.records (length s.packets) id u.allowed in
    rw n.gone
    (alike_sound _ t.1 t.2 (leave_sound s u.number n.halts u.lowest.within h idle) k.own_record.alike k.own_packets.long))
    k.end)
    (reclaim_result s id)

-- ---- the theorem

-- Every call keeps the invariant,
pub after_sound : (s : State) (c : Call) → Sound s → Sound (after s c)
after_sound s (configures packet burst interval) h = configure_sound s packet burst interval h
after_sound s (starts request lengths) h = start_sound s request lengths h
after_sound s stores h = store_sound s h
after_sound s (submits request lengths) h = submit_keeps Sound store_sound s request lengths h (start_sound s request lengths h)
after_sound s (hands event) h = hand_sound s event h
after_sound s (reclaims id) h = reclaim_sound s id h
after_sound s (cancels id) h = cancel_sound s id h
after_sound s retires h = retire_sound s h
after_sound s begins h = begin_sound s h
after_sound s (ends worked) h = end_sound s worked h
after_sound s stops h = h
after_sound s resumes h = h
after_sound s points h = h

-- so every state that is reached has it.
pub reached_sound : {s : State} → Reached s → Sound s
reached_sound = reached_has Sound made_sound (λ s r. after_sound s)

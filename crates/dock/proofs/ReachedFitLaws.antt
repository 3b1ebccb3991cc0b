-- In every state that is reached from making, row 1 of "When the dock says no" holds of nothing: the endpoint fits, no submission strays, and no
-- record in flight is bad; and never more than L-2 TRBs are outstanding. Assumes nothing.
use Rattle.std.specs.Prelude.{Option, Some, None, ⊤, Result}
use Prim.Native.Nat.{ℕ, ◌+◌, ◌-◌, ◌*◌, ◌<◌, ◌≤◌}
use mathlib.Core.Bool.{Bool, true, false, not, ◌&&◌, ◌||◌}
use mathlib.Core.List.{List}
use mathlib.Core.Logic.{◌⊎◌, inl, inr, ⊎_elim}
use mathlib.Core.Path.{◌≡◌, refl, sym, ap, ◌∙◌}
use native.Mathlib.Nat.{eq-or-lt_of_le}
use native.Mathlib.Omega.{arith}
use borrow.Author.Tests.{eqb-true, eqb-false, eq-eqb, ne_eqb, ltb-true, ltb-false, lt-ltb, le-ltb, lt-leb, not-false}
use lib.Dec.{eqb, ltb, leb}
use lib.ListN.{length}
use lib.Seq.{get_or-set_other}
use Rattle.base.specs.First.{pick}
use Rattle.base.proofs.Chosen.{quiet}
use Rattle.base.proofs.Compare.{same_or_not}
use Rattle.base.proofs.Decide.{Decides, both, if_so, by_leb, by_ltb, by_true, by_false}
use Rattle.mask.specs.Occupancy.{held}
use Rattle.mask.specs.Occupancy as masks
use Rattle.mask.proofs.OccupancyLaws.{none_free, taken_is}
use Rattle.sizes.specs.Sizes.{fewest_slots, record_count, record_words, packet_count}
use Rattle.ids.specs.Free.{id_at, held_by}
use Rattle.ids.specs.Lookup.{find_in, Finds}
use Rattle.ids.proofs.LookupLaws.{find_finds}
use Rattle.trb.specs.declared.Words.{Words}
use Rattle.records.specs.Kinds.{kind_is, isoch}
use Rattle.records.proofs.RecordLaws.{record_put, record_other}
use Rattle.ids.proofs.AnyLaws.{true_or_false, never_both, by_held}
use Rattle.records.specs.States.{state_is, in_flight}
use Rattle.records.proofs.StateLaws.{state_true}
use Rattle.records.specs.Records.{cancelled_word, record_at, set_word}
use Rattle.records.specs.declared.Record.{Record}
use Rattle.dock.specs.declared.After.{After}
use Rattle.dock.specs.declared.ResetCommands.{ResetCommands}
use Rattle.dock.specs.declared.Stored.{Stored}
use Rattle.dock.specs.declared.Refusal.{Refusal}
use Rattle.dock.specs.Refusals.{done}
use Rattle.dock.specs.declared.Endpoint.{Endpoint}
use Rattle.dock.specs.declared.Flags.{Flags}
use Rattle.dock.specs.declared.Identity.{Identity}
use Rattle.dock.specs.declared.Periodic.{Periodic}
use Rattle.dock.specs.declared.Shape.{Shape}
use Rattle.dock.specs.declared.Request.{Request}
use Rattle.dock.specs.declared.What.{What}
use Rattle.dock.specs.declared.What.TheVariants.{Control, Bulk, Interrupt, Isoch}
use Rattle.dock.specs.Limits.{limits_hold}
use Rattle.dock.specs.RowOne.{place_fits, first_fits, fits, flies, strays, fits_with, Next, the_link, the_trb, the_first, none, next_of, is_none}
use Rattle.dock.specs.State.{fresh, idle, with_store}
use Rattle.dock.specs.Make.{make_no, make, zeros}
use Rattle.dock.specs.Configure.{plain_tests, plain_no, configure}
use Rattle.dock.specs.Requests.{count_for, with_what, record_for, required}
use Rattle.dock.specs.Start.{crowded, too_long, some_over, sum_of, start_tests, start_no, record_taken, id_taken, charged, write_packets, started_endpoint, started_records, start}
use Rattle.dock.specs.Trbs.{trb_count, deferred}
use Rattle.dock.specs.NextStore.{store_tests, store_no, stepped, settled}
use Rattle.dock.specs.NextStore as storing
use Rattle.dock.specs.Reclaim.{leave, nothing, bad_record, reclaim_tests, reclaim_no, reclaim}
use Rattle.dock.specs.Cancel.{marked, cancel_tests, cancel_no, cancel}
use Rattle.dock.specs.Retire.{record_tests, record_no, retired_below, retire}
use Rattle.dock.specs.Reset.{begin_no, begin_reset, end_no, end_reset}
use Rattle.dock.specs.Run.{State, state_of, made_of, Made, making, Call, configures, starts, stores, submits, hands, reclaims, cancels, retires, begins, ends, stops, resumes, points, Reached}
use Rattle.dock.specs.Run as run
use Rattle.dock.proofs.Reached.{flight_part, Sound, reached_has}
use Rattle.dock.proofs.ReachedBookLaws.{Alike, by_flies, still_held}
use Rattle.dock.proofs.RefusalTestLaws.{implied}
use Rattle.dock.proofs.RetireLaws.{picked, none_flies, retired_none}
use Rattle.dock.proofs.SubmitLaws.{submit_keeps}
use Rattle.dock.proofs.ReclaimLaws.{Left, Measured, own_measured}
use Rattle.dock.proofs.ReachedSoundLaws.{either_true, both_false, left_true, right_true, fits_parts, fits_with_parts, place_slot, stepped_follows, settled_follows, store_busy, taken, short, started_sound, fresh_sound, not_done, slots_some, marked_alike, Untouched, Looked, reclaim_result, reclaim_idle, after_sound, reached_sound}

-- ---- the place as a fact on numbers

and_false : (a : Bool) → (a && false) ≡ false
and_false true = refl
and_false false = refl

or_true : (a : Bool) → (a || true) ≡ true
or_true true = refl
or_true false = refl

pub places_true : (e : Endpoint) → e.at.place + 1 ≤ e.shape.slots
    → (e.at.place + 1 ≡ e.shape.slots → (e.work.busy ≡ true) × (0 < e.work.stored)) → place_fits e ≡ true
unfolding place_fits
places_true e room last =
    ⊎_elim
    (λ (q : e.at.place + 1 ≡ e.shape.slots).
    let l = last q in rw (eq-eqb _ _ q, l.0, lt-ltb 0 e.work.stored l.1) (or_true (ltb (e.at.place + 1) e.shape.slots)))
    (λ (q : e.at.place + 1 < e.shape.slots). rw (lt-ltb _ _ q))
    (eq-or-lt_of_le room)

-- Where the place is L-1, a submission is under way of which a TRB is stored.
pub last_slot : (e : Endpoint) → place_fits e ≡ true → e.at.place + 1 ≡ e.shape.slots → (e.work.busy ≡ true) × (0 < e.work.stored)
unfolding place_fits
last_slot e p q =
    let plain = ltb (e.at.place + 1) e.shape.slots in
    let last = eqb (e.at.place + 1) e.shape.slots in
    let more = last && e.work.busy && ltb 0 e.work.stored in
    ⊎_elim
    (λ (t : plain ≡ true). absurd (omega (arith, ltb-true (e.at.place + 1) e.shape.slots t)))
    (λ (t : more ≡ true). (
      right_true last e.work.busy (left_true (last && e.work.busy) (ltb 0 e.work.stored) t),
      ltb-true 0 e.work.stored (right_true (last && e.work.busy) (ltb 0 e.work.stored) t),
    ))
    (either_true plain more p)

pub fits_true : (e : Endpoint) → limits_hold e.shape e.who ≡ true → place_fits e ≡ true
    → 0 < e.account.next → fits e ≡ true
fits_true e limits places above = if_so (fits_parts e) ((limits, places), ne_eqb e.account.next 0 (λ (z : e.account.next ≡ 0). omega arith))

-- ---- a submission that does not stray

pub record Straight (e : Endpoint) (records : List ℕ) : Type 0 where
  pub within : e.work.number < record_count
  pub flying : flies records e.account.occupancy e.work.number ≡ true
  pub most : e.work.stored ≤ trb_count (record_at records e.work.number)
  pub some : is_none (next_of e (record_at records e.work.number)) ≡ false
  pub first : deferred (record_at records e.work.number) ≡ true → e.work.place + 1 < e.shape.slots

by_straight : (e : Endpoint) (records : List ℕ)
    → Decides
    (ltb e.work.number record_count && flies records e.account.occupancy e.work.number
    && leb e.work.stored (trb_count (record_at records e.work.number))
    && not (is_none (next_of e (record_at records e.work.number))) && first_fits e (record_at records e.work.number))
    (((((e.work.number < record_count) × (flies records e.account.occupancy e.work.number ≡ true))
    × (e.work.stored ≤ trb_count (record_at records e.work.number)))
    × (is_none (next_of e (record_at records e.work.number)) ≡ false))
    × (deferred (record_at records e.work.number) ≡ true → e.work.place + 1 < e.shape.slots))
by_straight e records =
    both (both (both (both (by_ltb e.work.number record_count) (by_true (flies records e.account.occupancy e.work.number)))
    (by_leb e.work.stored (trb_count (record_at records e.work.number))))
    (by_false (is_none (next_of e (record_at records e.work.number)))))
    (implied (by_true (deferred (record_at records e.work.number))) (by_ltb (e.work.place + 1) e.shape.slots))

not_without : (a b : Bool) → (a ≡ true → b ≡ true) → (a && not b) ≡ false
not_without true b k = rw (k refl)
not_without false b k = refl

never_without : (a b : Bool) → (a && not b) ≡ false → a ≡ true → b ≡ true
never_without true b t e = not-false b t
never_without false b t e = absurd (never_both e refl)

pub strays_none : (e : Endpoint) (records : List ℕ) → (e.work.busy ≡ true → Straight e records) → strays e records ≡ false
unfolding strays
strays_none e records k =
    not_without e.work.busy _ (λ b. let s = k b in if_so (by_straight e records) ((((s.within, s.flying), s.most), s.some), s.first))

pub strays_facts : (e : Endpoint) (records : List ℕ) → strays e records ≡ false → e.work.busy ≡ true → Straight e records
unfolding strays
strays_facts e records t b =
    let f = (by_straight e records).so (never_without e.work.busy _ t b) in
    record { within = f.0.0.0.0; flying = f.0.0.0.1; most = f.0.0.1; some = f.0.1; first = f.1 }

-- ---- what the next store is

module _ (e : Endpoint) (v : Record) where
  -- At place L-1 the link is next.
  link_next : e.at.place + 1 ≡ e.shape.slots → next_of e v ≡ the_link
  unfolding next_of
  link_next q = rw (eq-eqb _ _ q)

  -- Elsewhere a TRB, where one is left.
  trb_next_lem : (e.at.place + 1 ≡ e.shape.slots → ⊥) → e.work.stored < trb_count v → next_of e v ≡ the_trb
  unfolding next_of
  trb_next_lem q l = rw (ne_eqb _ _ q, lt-ltb _ _ l)

  -- Behind the last, nothing.
  none_next : (e.at.place + 1 ≡ e.shape.slots → ⊥) → trb_count v < e.work.stored → is_none (next_of e v) ≡ true
  unfolding next_of
  none_next q l =
      rw (ne_eqb _ _ q, le-ltb e.work.stored (trb_count v) (omega arith), ne_eqb e.work.stored (trb_count v) (λ (z : e.work.stored ≡ trb_count v). omega arith))
      (picked (λ (n : Next). is_none n ≡ true) (deferred v && false) the_first none (λ t. absurd (never_both t (and_false (deferred v)))) (λ t. refl))

  -- What the next store is tells where the submission stands.
  abbrev Tells : Next → Type 0
  Tells the_link = e.at.place + 1 ≡ e.shape.slots
  Tells the_trb = (e.at.place + 1 ≡ e.shape.slots → ⊥) × (e.work.stored < trb_count v)
  Tells the_first = (e.at.place + 1 ≡ e.shape.slots → ⊥) × (e.work.stored ≡ trb_count v)
  Tells none = Unit {0}

  next_tells : Tells (next_of e v)
  unfolding next_of
  next_tells =
      picked Tells (eqb (e.at.place + 1) e.shape.slots) _ _ (λ t. eqb-true _ _ t)
      (λ t. picked Tells (ltb e.work.stored (trb_count v)) _ _ (λ u. (eqb-false _ _ t, ltb-true _ _ u))
      (λ u. picked Tells (deferred v && eqb e.work.stored (trb_count v)) _ _
      (λ w. (eqb-false _ _ t, eqb-true e.work.stored (trb_count v) (right_true (deferred v) (eqb e.work.stored (trb_count v)) w)))
      (λ w. tt)))

-- ---- a store

-- The submission goes on after a step: its place is one of the slots, and a TRB is left to store, or nothing is.
record Stepping (v : Record) (after : Endpoint) : Type 0 where
  room : after.at.place + 1 ≤ after.shape.slots
  last : after.at.place + 1 ≡ after.shape.slots → 0 < after.work.stored
  first : deferred v ≡ true → after.work.place + 1 < after.shape.slots
  busy : after.work.busy ≡ true
  left : (after.work.stored ≤ trb_count v) ⊎ (is_none (next_of after v) ≡ true)

module _ (e : Endpoint) (v : Record) (packets : List ℕ) (p : place_fits e ≡ true) (b : e.work.busy ≡ true) (few : e.work.stored ≤ trb_count v)
    (slots : fewest_slots ≤ e.shape.slots) (low : deferred v ≡ true → e.work.place + 1 < e.shape.slots) where
  before_last : (e.at.place + 1 ≡ e.shape.slots → ⊥) → e.at.place + 1 < e.shape.slots
  before_last d = ⊎_elim (λ (z : e.at.place + 1 ≡ e.shape.slots). absurd (d z)) (λ (z : e.at.place + 1 < e.shape.slots). z) (eq-or-lt_of_le (place_slot e p))

  stepping : (n : Next) → is_none n ≡ false → Tells e v n → Stepping v (stepped n e v packets)
  unfolding stepped
  stepping the_link s q = record { room = omega arith; last = λ (l : 0 + 1 ≡ e.shape.slots). absurd (omega arith); first = low; busy = refl; left = inl few }
  stepping the_trb s q = record {
    room = omega (arith, before_last q.0);
    last = λ l. omega arith;
    first = low;
    busy = refl;
    left = inl (omega (arith, q.1));
  }
  stepping the_first s q = record {
    room = place_slot e p;
    last = λ l. absurd (q.0 l);
    first = low;
    busy = refl;
    left = inr (none_next (stepped the_first e v packets) v q.0 (omega (arith, q.1)));
  }
  stepping none s q = absurd (never_both refl s)

module _ (v : Record) (after : Endpoint) (k : Stepping v after) where
  settled_places : place_fits (settled after v) ≡ true
  unfolding settled
  settled_places =
      picked (λ (x : Endpoint). place_fits x ≡ true) (is_none (next_of after v)) _ _
      (λ t. places_true (with_store after after.at after.periodic.frame idle) k.room
      (λ q. absurd (never_both t (ap is_none (link_next after v q)))))
      (λ t. places_true after k.room (λ q. (k.busy, k.last q)))

  settled_straight : (records : List ℕ) → record_at records after.work.number ≡ v → after.work.number < record_count
      → flies records after.account.occupancy after.work.number ≡ true → strays (settled after v) records ≡ false
  unfolding settled
  settled_straight records same within flying =
      picked (λ (x : Endpoint). strays x records ≡ false) (is_none (next_of after v)) _ _
      (λ t. strays_none (with_store after after.at after.periodic.frame idle) records (λ b. absurd (never_both b refl)))
      (λ t. strays_none after records
      (λ b. record {
        within = within;
        flying = flying;
        most = rw same (⊎_elim (λ (l : after.work.stored ≤ trb_count v). l) (λ (n : is_none (next_of after v) ≡ true). absurd (never_both n t)) k.left);
        some = rw same t;
        first = rw same k.first;
      }))

-- ---- the invariant

pub record Placed (s : State) : Type 0 where
  pub placing : place_fits s.endpoint ≡ true
  pub straight : strays s.endpoint s.records ≡ false
  -- "outstanding + required above L-2" is refused.
  pub capacity : s.endpoint.account.outstanding ≤ s.endpoint.shape.slots - 2
  -- A record in flight has its first TRB's place below L-1, at most 64 TRBs, and no more recorded than was asked for.
  pub bounds : (r : ℕ) → r < record_count → flies s.records s.endpoint.account.occupancy r ≡ true
      → ((record_at s.records r).place + 1 < s.endpoint.shape.slots) × ((record_at s.records r).count ≤ packet_count) × Measured (record_at s.records r)

-- Making.
fresh_placed : (shape : Shape) (who : Identity) (ring finished records packets : List ℕ) → fewest_slots ≤ shape.slots
    → Placed (state_of (fresh shape who) ring finished records packets)
fresh_placed shape who ring finished records packets some = record {
  placing = places_true (fresh shape who) (omega arith) (λ (q : 0 + 1 ≡ shape.slots). absurd (omega arith));
  straight = strays_none (fresh shape who) records (λ b. absurd (never_both b refl));
  capacity = omega arith;
  bounds = λ r l f. absurd (never_both ((by_flies records masks.none r).so f).0 (none_free r));
}

make_placed : (ring finished records packets : List ℕ) (shape : Shape) (who : Identity)
    → (make ring finished records packets shape who).0.answer ≡ done
    → Placed (made_of (make ring finished records packets shape who))
unfolding make
make_placed ring finished records packets shape who =
    picked
    (λ (t : After ⊤ × List ℕ × List ℕ × List ℕ × List ℕ). t.0.answer ≡ done → Placed (made_of t))
    (eqb (make_no (length ring) (length finished) (length records) (length packets) shape who) 0)
    _ _
    (λ t d. fresh_placed shape who (zeros ring) (zeros finished) (zeros records) (zeros packets)
    (slots_some _ (fresh_sound ring finished records packets shape who (eqb-true _ _ t))))
    (λ t d. absurd (not_done _ d))

made_placed : (s : State) → Made s → Placed s
made_placed s (making ring finished records packets shape who done) = make_placed ring finished records packets shape who done

-- Calls that change only settings and flags, or tables that are no records.
placed_parts : (s : State) (ring finished packets : List ℕ) (periodic : Periodic) (flags : Flags) → Placed s
    → Placed
    (state_of
    (record {
      at = s.endpoint.at;
      shape = s.endpoint.shape;
      who = s.endpoint.who;
      periodic = periodic;
      account = s.endpoint.account;
      flags = flags;
      work = s.endpoint.work;
    })
    ring finished s.records packets)
unfolding place_fits strays next_of
placed_parts s ring finished packets periodic flags k = record { placing = k.placing; straight = k.straight; capacity = k.capacity; bounds = k.bounds }

configure_placed : (s : State) (packet burst interval : ℕ) → Placed s → Placed (run.after s (configures packet burst interval))
unfolding configure
configure_placed s packet burst interval k =
    picked (λ (c : After ⊤). Placed (state_of c.endpoint s.ring s.finished s.records s.packets)) (eqb (plain_no s.endpoint) 0) _ _
    (λ t. placed_parts s s.ring s.finished s.packets _ _ k)
    (λ t. k)

begin_placed : (s : State) → Placed s → Placed (run.after s begins)
unfolding begin_reset
begin_placed s k =
    picked (λ (c : After (Option ResetCommands)). Placed (state_of c.endpoint s.ring s.finished s.records s.packets)) (eqb (begin_no s.endpoint s.records) 0) _ _
    (λ t. picked (λ (c : After (Option ResetCommands)). Placed (state_of c.endpoint s.ring s.finished s.records s.packets)) s.endpoint.flags.halted _ _
    (λ u. placed_parts s s.ring s.finished s.packets _ _ k)
    (λ u. k))
    (λ t. k)

end_placed : (s : State) (worked : Bool) → Placed s → Placed (run.after s (ends worked))
unfolding end_reset
end_placed s worked k =
    picked (λ (c : After ⊤). Placed (state_of c.endpoint s.ring s.finished s.records s.packets)) (eqb (end_no s.endpoint) 0) _ _
    (λ t. placed_parts s s.ring s.finished s.packets _ _ k)
    (λ t. k)

hand_placed : (s : State) (event : Words) → Placed s → Placed (run.after s (hands event))
hand_placed s event k = record { placing = k.placing; straight = k.straight; capacity = k.capacity; bounds = k.bounds }

-- The start of a submission: its record has a TRB to store, and at most 64.
count_some : (request : Request) (count id place : ℕ) → 0 < trb_count (record_for request count id place)
unfolding trb_count
count_some request count id place = some request.what
  where
    some : (what : What) → 0 < trb_count (record_for (with_what request what) count id place)
    some (Control type code value index) =
        picked (λ (n : ℕ). 0 < n) (eqb request.length 0) 2 3 (λ t. omega arith) (λ t. omega arith)
    some (Bulk incoming) = omega arith
    some (Interrupt incoming) = omega arith
    some (Isoch incoming) = omega arith

required_few : (what : What) (size : ℕ) (lengths : List ℕ) → too_long what size lengths ≡ false → count_for what size (length lengths) ≤ packet_count
unfolding too_long
required_few (Control type request value index) size lengths t =
    picked (λ (n : ℕ). n ≤ packet_count) (eqb size 0) 2 3 (λ u. omega arith) (λ u. omega arith)
required_few (Bulk incoming) size lengths t = omega arith
required_few (Interrupt incoming) size lengths t = omega arith
required_few (Isoch incoming) size lengths t =
    let first = (both_false (ltb packet_count (length lengths) || some_over lengths) (ltb size (sum_of lengths)) t).0 in
    omega (arith, ltb-false packet_count (length lengths) (both_false (ltb packet_count (length lengths)) (some_over lengths) first).0)

module _ (s : State) (request : Request) (lengths : List ℕ) (h : Sound s) (k : Placed s)
    (t : start_no s.endpoint s.records (length s.packets) request lengths ≡ 0) where
  start_idle : s.endpoint.work.busy ≡ false
  unfolding start_no start_tests
  start_idle = quiet (start_tests s.endpoint s.records (length s.packets) request lengths) 1 refl t (omega arith)

  below : s.endpoint.at.place + 1 < s.endpoint.shape.slots
  below =
      ⊎_elim
      (λ (q : s.endpoint.at.place + 1 ≡ s.endpoint.shape.slots). absurd (never_both (last_slot s.endpoint k.placing q).0 start_idle))
      (λ (q : s.endpoint.at.place + 1 < s.endpoint.shape.slots). q)
      (eq-or-lt_of_le (place_slot s.endpoint k.placing))

  roomy : s.endpoint.account.outstanding + required request (length lengths) ≤ s.endpoint.shape.slots - 2
  unfolding start_no start_tests crowded
  roomy = ltb-false _ _ (quiet (start_tests s.endpoint s.records (length s.packets) request lengths) 3 refl t (omega arith))

  abbrev new : Record
  new = record_for request (length lengths) (id_taken s.endpoint s.records) s.endpoint.at.place

  abbrev after : List ℕ
  after = started_records s.endpoint s.records request lengths

  room : record_words * record_taken s.endpoint + record_words ≤ length s.records
  room = let within = (taken s request lengths h t).within in omega (arith, h.records_long)

  new_here : record_at after (record_taken s.endpoint) ≡ new
  unfolding started_records
  new_here = record_put s.records (record_taken s.endpoint) new room

  old_other : (q : ℕ) → (q ≡ record_taken s.endpoint → ⊥) → record_at after q ≡ record_at s.records q
  unfolding started_records
  old_other q d = record_other s.records (record_taken s.endpoint) new room q d

  started_bounds : (q : ℕ) → q < record_count → flies after (masks.taken s.endpoint.account.occupancy (record_taken s.endpoint)) q ≡ true
      → ((record_at after q).place + 1 < s.endpoint.shape.slots) × ((record_at after q).count ≤ packet_count) × Measured (record_at after q)
  started_bounds q l f =
      let r = record_taken s.endpoint in
      ⊎_elim
      (λ (e : q ≡ r). rw (ap (record_at after) e ∙ new_here) (below, required_few request.what request.length lengths (short s request lengths h t), omega arith))
      (λ (d : q ≡ r → ⊥).
      let is = (by_flies after (masks.taken s.endpoint.account.occupancy r) q).so f in
      let same = old_other q d in
      let flew : flies s.records s.endpoint.account.occupancy q ≡ true =
      if_so (by_flies s.records s.endpoint.account.occupancy q)
      (sym ((taken_is s.endpoint.account.occupancy r (taken s request lengths h t).within).others q d) ∙ is.0, sym (ap (λ (x : Record). x.state) same) ∙ is.1) in
      rw same (k.bounds q l flew))
      (same_or_not q r)

  started_placed : Placed (state_of (started_endpoint s.endpoint s.records request lengths) s.ring s.finished after (write_packets s.packets (record_taken s.endpoint) request.what lengths))
  unfolding started_endpoint charged
  started_placed =
      let e = started_endpoint s.endpoint s.records request lengths in
      let sound = started_sound s request lengths h t in
      record {
        placing = places_true e (omega (arith, below)) (λ (q : s.endpoint.at.place + 1 ≡ s.endpoint.shape.slots). absurd (omega (arith, below)));
        straight = strays_none e after
            (λ b. record {
              within = (sound.underway b).within;
              flying = (sound.underway b).flying;
              most = omega arith;
              some = ap is_none (trb_next_lem e (record_at after (record_taken s.endpoint))
                  (λ (q : s.endpoint.at.place + 1 ≡ s.endpoint.shape.slots). omega (arith, below))
                  (rw new_here (count_some request (length lengths) (id_taken s.endpoint s.records) s.endpoint.at.place)));
              first = λ late. below;
            });
        capacity = roomy;
        bounds = started_bounds;
      }

start_placed : (s : State) (request : Request) (lengths : List ℕ) → Sound s → Placed s → Placed (run.after s (starts request lengths))
unfolding start
start_placed s request lengths h k =
    picked (λ (a : After ⊤ × List ℕ × List ℕ). Placed (state_of a.0.endpoint s.ring s.finished a.1 a.2))
    (eqb (start_no s.endpoint s.records (length s.packets) request lengths) 0) _ _
    (λ t. started_placed s request lengths h k (eqb-true _ _ t))
    (λ t. k)

-- A store.
store_placed : (s : State) → Sound s → Placed s → Placed (run.after s stores)
unfolding storing.store
store_placed s h k =
    let e = s.endpoint in
    let v = record_at s.records e.work.number in
    let n = next_of e v in
    picked (λ (a : After Stored × List ℕ × List ℕ). Placed (state_of a.0.endpoint a.1 a.2 s.records s.packets))
    (eqb (store_no e (length s.ring) (length s.finished) s.records (length s.packets)) 0) _ _
    (λ t.
    let b = store_busy s h (eqb-true _ _ t) in
    let f = strays_facts e s.records k.straight b in
    let after = stepped n e v s.packets in
    let step = stepping e v s.packets k.placing b f.most (slots_some s h) f.first n f.some (next_tells e v) in
    let follows = stepped_follows e k.placing b v s.packets n in
    let same : after.work.number ≡ e.work.number = (follows.work step.busy).1 in
    let ends = settled_follows e after v follows in
    record {
      placing = settled_places v after step;
      straight = settled_straight v after step s.records (ap (record_at s.records) same) (omega (arith, f.within)) (rw (follows.account, same) f.flying);
      capacity = rw (ends.account, ends.shape) k.capacity;
      bounds = rw (ends.account, ends.shape) k.bounds;
    })
    (λ t. k)

-- Calls that find no submission under way, and leave places and counts: what flies afterwards flew before.
idle_placed : (s : State) (e : Endpoint) (records packets : List ℕ) → Placed s → place_fits e ≡ true → e.work.busy ≡ false
    → e.shape ≡ s.endpoint.shape → e.account.outstanding ≤ s.endpoint.account.outstanding → Alike s.records records
    → ((r : ℕ) → Measured (record_at s.records r) → Measured (record_at records r))
    → ((r : ℕ) → r < record_count → held e.account.occupancy r ≡ true → held s.endpoint.account.occupancy r ≡ true)
    → Placed (state_of e s.ring s.finished records packets)
idle_placed s e records packets k p idle shape less alike measured kept = record {
  placing = p;
  straight = strays_none e records (λ b. absurd (never_both b idle));
  capacity = omega (arith, ap (λ (x : Shape). x.slots) shape, k.capacity);
  bounds = λ r l f.
      let is = (by_flies records e.account.occupancy r).so f in
      let b = k.bounds r l (if_so (by_flies s.records s.endpoint.account.occupancy r) (kept r l is.0, sym (alike.state r) ∙ is.1)) in
      (omega (arith, ap (λ (x : Shape). x.slots) shape, alike.place r, b.0), omega (arith, alike.count r, b.1), measured r b.2);
}

mark_measured : (records : List ℕ) (q r mark : ℕ) → Measured (record_at records r) → Measured (record_at (set_word records q cancelled_word mark) r)
unfolding record_at set_word
mark_measured records q r mark m =
    omega (
      arith,
      get_or-set_other records (record_words * q + 4) (record_words * r + 11) mark 0 (λ e. omega arith),
      get_or-set_other records (record_words * q + 4) (record_words * r + 6) mark 0 (λ e. omega arith),
    )

marked_measured : (records : List ℕ) (f : Option ℕ) (r : ℕ) → Measured (record_at records r) → Measured (record_at (marked records f) r)
marked_measured records None r m = m
marked_measured records (Some q) r m = mark_measured records q r _ m

cancel_placed : (s : State) (id : ℕ) → Placed s → Placed (run.after s (cancels id))
unfolding cancel cancel_no cancel_tests
cancel_placed s id k =
    let e = s.endpoint in
    picked (λ (a : Result ⊤ Refusal × List ℕ). Placed (state_of e s.ring s.finished a.1 s.packets)) (eqb (cancel_no e s.records id) 0) _ _
    (λ t. idle_placed s e _ s.packets k k.placing (quiet (cancel_tests e s.records id) 1 refl (eqb-true _ _ t) (omega arith)) refl (omega arith)
    (marked_alike s.records (find_in s.records e.account.occupancy id)) (marked_measured s.records (find_in s.records e.account.occupancy id)) (λ r l f. f))
    (λ t. k)

retire_placed : (s : State) → Sound s → Placed s → Placed (run.after s retires)
unfolding retire record_no record_tests place_fits
retire_placed s h k =
    let e = s.endpoint in
    picked (λ (a : After ⊤ × List ℕ). Placed (state_of a.0.endpoint s.ring s.finished a.1 s.packets)) (eqb (record_no e s.records) 0) _ _
    (λ t. record {
      placing = k.placing;
      straight = strays_none _ _ (λ b. absurd (never_both b (quiet (record_tests e s.records) 1 refl (eqb-true _ _ t) (omega arith))));
      capacity = omega (arith, retired_none e.account s.records h.records_long h.books);
      bounds = λ r l f. absurd (none_flies e.account s.records h.records_long r l
          ((by_flies (retired_below record_count e.account.occupancy e.account.outstanding s.records).1 e.account.occupancy r).so f));
    })
    (λ t. k)

leave_places : (e : Endpoint) (r count : ℕ) (halts : Bool) → place_fits (leave e r count halts) ≡ place_fits e
unfolding place_fits leave
leave_places e r count halts = refl

leave_placed : (s : State) (r count : ℕ) (halts : Bool) (records packets : List ℕ) → Placed s → s.endpoint.work.busy ≡ false → Alike s.records records
    → ((q : ℕ) → Measured (record_at s.records q) → Measured (record_at records q)) → r < record_count
    → Placed (state_of (leave s.endpoint r count halts) s.ring s.finished records packets)
unfolding leave
leave_placed s r count halts records packets k idle alike measured l =
    idle_placed s (leave s.endpoint r count halts) records packets k (leave_places s.endpoint r count halts ∙ k.placing) idle refl (omega arith) alike measured
    (λ q m f. still_held s.endpoint.account s.records r l q f)

reclaim_placed : (s : State) (id : ℕ) → Placed s → Placed (run.after s (reclaims id))
reclaim_placed s id k =
    let t = reclaim s.endpoint s.finished s.records s.packets id in
    ⊎_elim
    (λ (u : Untouched s t). rw (u.endpoint, u.records, u.packets) k)
    (λ (u : Looked s id t).
    let idle = reclaim_idle s.endpoint (length s.finished) s.records (length s.packets) id u.allowed in
    let own = u.touches.own_record.alike in
    let measured = own_measured u.number s.records t.1 u.touches.own_record in
    ⊎_elim
    (λ (n : t.0 ≡ nothing s.endpoint). rw n (idle_placed s s.endpoint t.1 t.2 k k.placing idle refl (omega arith) own measured (λ r l f. f)))
    (λ (n : Left s.endpoint u.number (flight_part s.records s.endpoint.account.occupancy u.number) t.0).
    rw n.gone (leave_placed s u.number _ n.halts t.1 t.2 k idle own measured u.lowest.within))
    u.touches.end)
    (reclaim_result s id)

-- ---- the theorem

pub after_placed : (s : State) (c : Call) → Sound s → Placed s → Placed (run.after s c)
after_placed s (configures packet burst interval) h k = configure_placed s packet burst interval k
after_placed s (starts request lengths) h k = start_placed s request lengths h k
after_placed s stores h k = store_placed s h k
after_placed s (submits request lengths) h k =
    (submit_keeps (λ (t : State). Sound t × Placed t) (λ t b. (after_sound t stores b.0, store_placed t b.0 b.1)) s request lengths (h, k)
    (after_sound s (starts request lengths) h, start_placed s request lengths h k)).1
after_placed s (hands event) h k = hand_placed s event k
after_placed s (reclaims id) h k = reclaim_placed s id k
after_placed s (cancels id) h k = cancel_placed s id k
after_placed s retires h k = retire_placed s h k
after_placed s begins h k = begin_placed s k
after_placed s (ends worked) h k = end_placed s worked k
after_placed s stops h k = k
after_placed s resumes h k = k
after_placed s points h k = k

pub reached_placed : {s : State} → Reached s → Placed s
reached_placed = reached_has Placed made_placed (λ s r c. after_placed s c (reached_sound r))

-- The endpoint fits, alone and with its records,
pub reached_fits : {s : State} → Reached s → fits s.endpoint ≡ true
reached_fits {s} r = fits_true s.endpoint (reached_sound r).limits (reached_placed r).placing (reached_sound r).books.next_above

pub reached_fits_with : {s : State} → Reached s → fits_with s.endpoint s.records ≡ true
reached_fits_with {s} r = if_so (fits_with_parts s.endpoint s.records) ((reached_fits r, (reached_sound r).records_long), (reached_placed r).straight)

-- never more TRBs are outstanding than L-2,
pub reached_capacity : {s : State} → Reached s → s.endpoint.account.outstanding ≤ s.endpoint.shape.slots - 2
reached_capacity r = (reached_placed r).capacity

-- and no record that an id finds is bad.
lookup_fits : (s : State) → Placed s → (id : ℕ) (f : Option ℕ) → Finds record_count (held_by (held s.endpoint.account.occupancy) (id_at s.records) id) f
    → bad_record s.endpoint s.records f ≡ false
lookup_fits s k id None low = refl
lookup_fits s k id (Some r) low =
    let v = record_at s.records r in
    let mine = (by_held (held s.endpoint.account.occupancy) (id_at s.records) id r).so low.here in
    ⊎_elim
    (λ (t : state_is v.state in_flight ≡ true).
    let b = k.bounds r low.within (if_so (by_flies s.records s.endpoint.account.occupancy r) (mine.0, state_true v.state in_flight t)) in
    rw (t, lt-leb s.endpoint.shape.slots (v.place + 1) b.0, le-ltb packet_count v.count b.1) (and_false (kind_is v.kind isoch)))
    (λ (t : state_is v.state in_flight ≡ false). rw t)
    (true_or_false (state_is v.state in_flight))

pub reached_not_bad : {s : State} → Reached s → (id : ℕ) → bad_record s.endpoint s.records (find_in s.records s.endpoint.account.occupancy id) ≡ false
reached_not_bad {s} r id =
    lookup_fits s (reached_placed r) id (find_in s.records s.endpoint.account.occupancy id)
    (find_finds record_count (held s.endpoint.account.occupancy) (id_at s.records) id)

-- So a configuring, a retire and a reclaim are refused only while a submission is under way (12), and a store only while none is (10).
pub plain_number : {s : State} → Reached s → plain_no s.endpoint ≡ pick s.endpoint.work.busy 12 0
unfolding plain_no plain_tests
plain_number r = rw (reached_fits r)

pub record_number : {s : State} → Reached s → record_no s.endpoint s.records ≡ pick s.endpoint.work.busy 12 0
unfolding record_no record_tests
record_number r = rw (reached_fits_with r)

pub reclaim_number : {s : State} → Reached s → (id : ℕ)
    → reclaim_no s.endpoint (length s.finished) s.records (length s.packets) id ≡ pick s.endpoint.work.busy 12 0
unfolding reclaim_no reclaim_tests
reclaim_number {s} r id =
    let h = reached_sound r in
    rw (reached_fits_with r, eq-eqb _ _ h.finished_long, eq-eqb _ _ h.packets_long, reached_not_bad r id)

pub store_number : {s : State} → Reached s
    → store_no s.endpoint (length s.ring) (length s.finished) s.records (length s.packets) ≡ pick s.endpoint.work.busy 0 10
unfolding store_no store_tests
store_number {s} r =
    let h = reached_sound r in
    rw (reached_fits_with r, eq-eqb _ _ h.ring_long, eq-eqb _ _ h.finished_long, eq-eqb _ _ h.packets_long) (turned s.endpoint.work.busy)
  where
    turned : (b : Bool) → ◌≡◌ {A = ℕ} (pick (not b) 10 0) (pick b 0 10)
    turned true = refl
    turned false = refl

-- A submission that is started ends: its stores, one after the other, answer its id and the doorbell word within as many stores as the request has TRBs
-- and two more, the link and the first TRB again; nothing is under way then. Assumes nothing.
use Rattle.std.specs.Prelude.{Ok}
use Prim.Native.Nat.{ℕ, zero, suc, ◌+◌, ◌<◌, ◌≤◌}
use mathlib.Core.Bool.{true, false, ◌&&◌, false≢true}
use mathlib.Core.List.{List}
use mathlib.Core.Logic.{◌⊎◌, inl, inr, ⊎_elim}
use mathlib.Core.Path.{◌≡◌, refl, sym, ap, subst, ◌∙◌}
use native.Mathlib.Omega.{arith}
use lib.Dec.{eqb}
use lib.ListN.{length}
use Rattle.base.proofs.Compare.{lt_or_le}
use Rattle.base.proofs.Decide.{by_eqb, both, if_so}
use Rattle.ids.proofs.AnyLaws.{true_or_false}
use Rattle.records.specs.Records.{record_at}
use Rattle.records.specs.declared.Record.{Record}
use Rattle.dock.specs.declared.Endpoint.{Endpoint}
use Rattle.dock.specs.declared.Identity.{Identity}
use Rattle.dock.specs.declared.Request.{Request}
use Rattle.dock.specs.declared.Shape.{Shape}
use Rattle.dock.specs.declared.After.{After}
use Rattle.dock.specs.declared.Submitted.{Submitted}
use Rattle.dock.specs.declared.Stored.{Stored}
use Rattle.dock.specs.RowOne.{Next, the_link, the_trb, the_first, none, next_of, is_none}
use Rattle.sizes.specs.Sizes.{ring_size}
use Rattle.dock.specs.Requests.{required}
use Rattle.dock.specs.Start.{start_no, started_endpoint, started_records, record_taken, id_taken, charged, write_packets}
use Rattle.dock.specs.State.{idle}
use Rattle.dock.specs.NextStore.{store_no, store, stepped}
use Rattle.dock.specs.Trbs.{trb_count}
use Rattle.dock.specs.Submit.{after_store, finish, most_stores, submit}
use Rattle.dock.proofs.StoreNextLaws.{because, Storing, store_admits}
use Rattle.dock.proofs.RefusalLaws.{submit_as_start, submit_acts}
use Rattle.dock.proofs.StartLaws.{start_admitted, record_written}
use Rattle.dock.proofs.StartStoreLaws.{place_low, started_storing, started_count}
use Rattle.dock.proofs.StoreStepLaws.{Kept, step_keeps, step_works, first_is_last, store_keeps, store_goes_on, store_ends}
use Rattle.dock.proofs.StoreLaws.{flying_record, next_store, stepped_next, last_store, ring_length, finished_length}

-- ---- from one store to the next

-- A submission whose first place is p, at most L-2, stands at p and what is stored, or once the link is stored that much less the L-1 places; and so many
-- stores are enough for what is left of it.
abbrev pub Enough : ℕ → Endpoint → ℕ → Type 0
Enough fuel e count =
    (e.work.place + 1 < e.shape.slots)
    × (((e.at.place ≡ e.work.place + e.work.stored) × (count + 2 ≤ fuel + e.work.stored))
    ⊎ ((e.at.place + e.shape.slots ≡ e.work.place + e.work.stored + 1) × (count + 1 ≤ fuel + e.work.stored)))

not_none : (e : Endpoint) (v : Record) → next_of e v ≡ none → is_none (next_of e v) ≡ false → ⊥
not_none e v q more = false≢true (sym more ∙ ap is_none q)

module _ (e : Endpoint) (ring finished records packets : List ℕ) (s : Storing e ring finished records packets) where
  -- A submission that goes on may store again.
  pub still : (n : Next) → next_store e records ≡ n → is_none (next_of (stepped n e (flying_record e records) packets) (flying_record e records)) ≡ false
      → (ring' finished' : List ℕ) → length ring' ≡ length ring → length finished' ≡ length finished
      → Storing (stepped n e (flying_record e records) packets) ring' finished' records packets
  unfolding stepped
  still the_link q more ring' finished' rings places = record {
    fits = record {
      limits = s.fits.limits;
      place = inl (omega (arith, s.fits.limits.slots_least));
      next = s.fits.next;
    };
    records_size_lem = s.records_size_lem;
    ring_size_lem = rings ∙ s.ring_size_lem;
    finished_size = places ∙ s.finished_size;
    packets_size_lem = s.packets_size_lem;
    busy = refl;
    course = record { number = s.course.number; held = s.course.held; flying = s.course.flying; counted = s.course.counted; more = more; first = s.course.first };
  }
  still the_trb q more ring' finished' rings places =
      let w = because e (flying_record e records) the_trb q in
      let low : e.at.place + 1 < e.shape.slots =
      ⊎_elim (λ (h : e.at.place + 1 < e.shape.slots). h) (λ h. absurd (w.0 h.0.0)) s.fits.place in
      record {
        fits = record {
          limits = s.fits.limits;
          place =
              ⊎_elim
              (λ (h : e.at.place + 1 + 1 < e.shape.slots). inl h)
              (λ (h : e.shape.slots ≤ e.at.place + 1 + 1). inr ((omega arith, refl), omega arith))
              (lt_or_le (e.at.place + 1 + 1) e.shape.slots);
          next = s.fits.next;
        };
        records_size_lem = s.records_size_lem;
        ring_size_lem = rings ∙ s.ring_size_lem;
        finished_size = places ∙ s.finished_size;
        packets_size_lem = s.packets_size_lem;
        busy = refl;
        course = record { number = s.course.number; held = s.course.held; flying = s.course.flying; counted = omega arith; more = more; first = s.course.first };
      }
  still the_first q more ring' finished' rings places =
      absurd (not_none (stepped the_first e (flying_record e records) packets) (flying_record e records) (first_is_last e (flying_record e records) packets q) more)
  still none q more ring' finished' rings places = absurd (not_none e (flying_record e records) q s.course.more)

  -- One store less is enough for what is left.
  enough_less : (n : Next) → next_store e records ≡ n → is_none (next_of (stepped n e (flying_record e records) packets) (flying_record e records)) ≡ false
      → (fuel : ℕ) → trb_count (flying_record e records) + 2 ≤ e.shape.slots → Enough (suc fuel) e (trb_count (flying_record e records))
      → Enough fuel (stepped n e (flying_record e records) packets) (trb_count (flying_record e records))
  unfolding stepped
  enough_less the_link q more fuel few enough =
      let w = because e (flying_record e records) the_link q in
      let start = enough.0 in
      let count = s.course.counted in
      (start, ⊎_elim (λ h. inr (omega arith, omega arith)) (λ h. absurd (omega arith)) enough.1)
  enough_less the_trb q more fuel few enough = (enough.0, ⊎_elim (λ h. inl (omega arith, omega arith)) (λ h. inr (omega arith, omega arith)) enough.1)
  enough_less the_first q more fuel few enough =
      absurd (not_none (stepped the_first e (flying_record e records) packets) (flying_record e records) (first_is_last e (flying_record e records) packets q) more)
  enough_less none q more fuel few enough = absurd (not_none e (flying_record e records) q s.course.more)

  never_out : Enough 0 e (trb_count (flying_record e records)) → ⊥
  never_out enough = let count = s.course.counted in ⊎_elim (λ h. omega arith) (λ h. omega arith) enough.1

-- ---- to the end

-- The stores have ended: the answer is Done with the id and the dci, nothing is under way, all but the position and the next frame is kept, and so are
-- the sizes.
pub record Ended (e : Endpoint) (ring finished : List ℕ) (id : ℕ) (s : After Submitted × List ℕ × List ℕ) : Type 0 where
  pub answer : s.0.answer ≡ Ok (record { id = id; bell = e.who.dci })
  pub work : s.0.endpoint.work ≡ idle
  pub kept : Kept e s.0.endpoint
  pub ring_size_lem : length s.1 ≡ length ring
  pub finished_size : length s.2 ≡ length finished

kept_on : (a b c : Endpoint) → Kept a b → Kept b c → Kept a c
kept_on a b c p q = record {
  shape = q.shape ∙ p.shape;
  who = q.who ∙ p.who;
  account = q.account ∙ p.account;
  flags = q.flags ∙ p.flags;
  packet = q.packet ∙ p.packet;
  burst = q.burst ∙ p.burst;
  interval = q.interval ∙ p.interval;
}

-- A store, and what follows it.
module _ (fuel : ℕ) (e : Endpoint) (ring finished records packets : List ℕ) (s : Storing e ring finished records packets) where
  abbrev next : Endpoint
  next = stepped_next e records packets

  abbrev left : After Stored × List ℕ × List ℕ
  left = store e ring finished records packets

  abbrev followed : After Stored → After Submitted × List ℕ × List ℕ
  followed x =
      after_store x.answer x.endpoint left.1 left.2 (λ e ring finished. finish fuel e ring finished records packets)

  one_more : finish (suc fuel) e ring finished records packets ≡ followed left.0
  unfolding finish
  one_more = refl

  passed : store_no e (length ring) (length finished) records (length packets) ≡ 0
  passed = store_admits e ring finished records packets s

  ring_kept : length left.1 ≡ length ring
  ring_kept = ring_length e ring finished records packets passed

  finished_kept : length left.2 ≡ length finished
  finished_kept = finished_length e ring finished records packets passed

  stepped_kept : Kept e next
  stepped_kept = step_keeps (next_store e records) e (flying_record e records) packets

  ends : last_store e records packets ≡ true → Ended e ring finished (flying_record e records).id (finish (suc fuel) e ring finished records packets)
  ends last =
      let told = store_ends e ring finished records packets passed last in
      subst (λ (x : After Submitted × List ℕ × List ℕ). Ended e ring finished (flying_record e records).id x) (sym (one_more ∙ ap followed told))
      (record {
        answer = refl;
        work = refl;
        kept = subst (λ (x : After Stored). Kept e x.endpoint) told (store_keeps e ring finished records packets passed);
        ring_size_lem = ring_kept;
        finished_size = finished_kept;
      })

  -- The record is the same.
  same_record : flying_record next records ≡ flying_record e records
  same_record = ap (λ (r : ℕ). record_at records r) (step_works (next_store e records) e (flying_record e records) packets).number

  next_storing : last_store e records packets ≡ false → Storing next left.1 left.2 records packets
  next_storing more = still e ring finished records packets s (next_store e records) refl more left.1 left.2 ring_kept finished_kept

  next_enough : last_store e records packets ≡ false → trb_count (flying_record e records) + 2 ≤ e.shape.slots
      → Enough (suc fuel) e (trb_count (flying_record e records)) → Enough fuel next (trb_count (flying_record next records))
  next_enough more few enough =
      subst (λ (v : Record). Enough fuel next (trb_count v)) (sym same_record)
      (enough_less e ring finished records packets s (next_store e records) refl more fuel few enough)

  next_few : trb_count (flying_record e records) + 2 ≤ e.shape.slots → trb_count (flying_record next records) + 2 ≤ next.shape.slots
  next_few few = omega (arith, ap trb_count same_record, ap (λ (x : Shape). x.slots) stepped_kept.shape)

  goes_on : last_store e records packets ≡ false
      → Ended next left.1 left.2 (flying_record next records).id (finish fuel next left.1 left.2 records packets)
      → Ended e ring finished (flying_record e records).id (finish (suc fuel) e ring finished records packets)
  goes_on more later =
      let told = store_goes_on e ring finished records packets passed more in
      subst (λ (x : After Submitted × List ℕ × List ℕ). Ended e ring finished (flying_record e records).id x) (sym (one_more ∙ ap followed told))
      (record {
        answer = later.answer ∙ ap (λ (v : Record). Ok (record { id = v.id; bell = next.who.dci })) same_record
            ∙ ap (λ (x : Identity). Ok (record { id = (flying_record e records).id; bell = x.dci })) stepped_kept.who;
        work = later.work;
        kept = kept_on e next (finish fuel next left.1 left.2 records packets).0.endpoint stepped_kept later.kept;
        ring_size_lem = later.ring_size_lem ∙ ring_kept;
        finished_size = later.finished_size ∙ finished_kept;
      })

-- The stores that are left end.
pub finishes : (fuel : ℕ) (e : Endpoint) (ring finished records packets : List ℕ) → Storing e ring finished records packets
    → trb_count (flying_record e records) + 2 ≤ e.shape.slots → Enough fuel e (trb_count (flying_record e records))
    → Ended e ring finished (flying_record e records).id (finish fuel e ring finished records packets)
finishes zero e ring finished records packets s few enough = absurd (never_out e ring finished records packets s enough)
finishes (suc fuel) e ring finished records packets s few enough =
    ⊎_elim
    (ends fuel e ring finished records packets s)
    (λ more.
    goes_on fuel e ring finished records packets s more
    (finishes fuel (stepped_next e records packets) (store e ring finished records packets).1 (store e ring finished records packets).2 records packets
    (next_storing fuel e ring finished records packets s more)
    (next_few fuel e ring finished records packets s few)
    (next_enough fuel e ring finished records packets s more few enough)))
    (true_or_false (last_store e records packets))

-- ---- the whole submission

module _ (e : Endpoint) (ring finished records packets : List ℕ) (request : Request) (lengths : List ℕ)
    (passed : start_no e records (length packets) request lengths ≡ 0)
    (ring_size_lem : length ring ≡ ring_size e.shape.slots) (finished_size : length finished ≡ ring_size e.shape.slots) where
  abbrev begun_with : Endpoint
  begun_with = started_endpoint e records request lengths

  abbrev written : List ℕ
  written = started_records e records request lengths

  abbrev asked : List ℕ
  asked = write_packets packets (record_taken e) request.what lengths

  -- From a start that is admitted the stores end, with the id taken.
  pub start_finishes : Ended begun_with ring finished (id_taken e records) (finish (most_stores request (length lengths)) begun_with ring finished written asked)
  unfolding started_endpoint
  start_finishes =
      let count = started_count e ring finished records packets request lengths passed ring_size_lem finished_size in
      let s = start_admitted e records packets request lengths passed in
      let least = s.fits.endpoint.limits.slots_least in
      let room = s.room in
      subst (λ (v : Record). Ended begun_with ring finished v.id (finish (most_stores request (length lengths)) begun_with ring finished written asked))
      (record_written e records packets request lengths passed)
      (finishes (most_stores request (length lengths)) begun_with ring finished written asked
      (started_storing e ring finished records packets request lengths passed ring_size_lem finished_size)
      (omega arith)
      (place_low e ring finished records packets request lengths passed ring_size_lem finished_size, inl (omega arith, omega arith)))

  fit : (eqb (length ring) (ring_size e.shape.slots) && eqb (length finished) (ring_size e.shape.slots)) ≡ true
  fit = if_so (both (by_eqb (length ring) (ring_size e.shape.slots)) (by_eqb (length finished) (ring_size e.shape.slots))) (ring_size_lem, finished_size)

  -- A submission that is admitted is done: it answers the id taken and the dci, and nothing is under way afterwards.
  pub submit_done : ((submit e ring finished records packets request lengths).0.answer ≡ Ok (record { id = (id_taken e records); bell = e.who.dci }))
      × ((submit e ring finished records packets request lengths).0.endpoint.work ≡ idle)
      × ((submit e ring finished records packets request lengths).0.endpoint.account
      ≡ charged e.account (id_taken e records) (record_taken e) (required request (length lengths)))
  unfolding started_endpoint
  submit_done =
      let admitted = submit_as_start e ring finished records packets request lengths fit ∙ passed in
      let whole = submit_acts e ring finished records packets request lengths admitted in (
        ap (λ x. x.0.answer) whole ∙ start_finishes.answer,
        ap (λ x. x.0.endpoint.work) whole ∙ start_finishes.work,
        ap (λ x. x.0.endpoint.account) whole ∙ start_finishes.kept.account,
      )

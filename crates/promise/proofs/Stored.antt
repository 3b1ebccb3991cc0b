-- The next store keeps the invariant: it is the model's store. Assumes nothing.
use Rattle.std.specs.Prelude.{Some}
use Prim.Native.Nat.{ℕ, suc, ◌+◌, ◌-◌, ◌*◌, ◌<◌, ◌≤◌}
use mathlib.Core.Bool.{Bool, true, false, not, false≢true}
use mathlib.Core.List.{List, [], ◌∷◌}
use mathlib.Core.Logic.{◌⊎◌, inl, inr, ⊎_elim}
use mathlib.Core.Option.{Option, none, some}
use mathlib.Core.Path.{◌≡◌, refl, sym, ap, ap₂, ◌∙◌, subst}
use native.Mathlib.Numerals.{add-one}
use native.Mathlib.Omega.{arith}
use borrow.Author.Tests.{eq-eqb, ne_eqb}
use lib.Dec.{eqb}
use lib.ListN.{length}
use Rattle.base.proofs.Compare.{same_or_not, lt_or_le}
use Rattle.trb.specs.Layouts.{words_of, words_at}
use Rattle.trb.specs.declared.Trb.{Trb}
use Rattle.trb.specs.declared.Words.{Words}
use Rattle.ring.specs.Ring.{store_at, onward, around}
use Rattle.ring.specs.declared.Position.{Position}
use Rattle.ring.proofs.RuleLaws.{store_same, store_other}
use Rattle.finished.specs.Finished.{finished_at, clear_place}
use Rattle.records.specs.Records.{record_at}
use Rattle.records.specs.declared.Record.{Record}
use Rattle.finished.proofs.FinishedLaws.{cleared, others_kept}
use Rattle.dock.specs.declared.Endpoint.{Endpoint}
use Rattle.dock.specs.RowOne.{Next, the_link, the_trb, the_first, next_of, is_none}
use Rattle.dock.specs.State.{idle, with_store}
use Rattle.dock.specs.NextStore.{stepped, settled, ring_stored, finished_stored, first_cycle, store_no}
use Rattle.dock.specs.Trbs.{trb_count, trb_of, deferred, first_trb, chained, link_for}
use Rattle.dock.proofs.StoreNextLaws.{is_next, store_admitted}
use Rattle.dock.proofs.Reached.{Sound}
use Rattle.dock.specs.Run.{State, state_of, stores}
use Rattle.dock.proofs.RefusalLaws.{store_acts, store_refuses}
use Rattle.dock.proofs.StoreStepLaws.{step_works, first_hidden, trb_current}
use Rattle.dock.proofs.TdLaws.{first_same, link_kept}
use Rattle.order.specs.Flat.{flat, set_cycle, set_slot}
use Rattle.order.specs.Model as model
use Rattle.order.proofs.Index.{pos, period}
use Rattle.order.proofs.Moves.{Inv, store_keeps, doing_of, pending}
use Rattle.order.proofs.Numbers.{Numbered, store_numbered}
use Rattle.promise.specs.Run.{World, with_dock, calls, act}
use Rattle.promise.proofs.Awaited.{next_at}
use Rattle.promise.proofs.Kept.{position_of, model_of, model_in, upcoming, LinkSlot, link_words, left, Opens, Shows, Hides, Under, rests, opens, shows, hides, Begun, Places, Kept}
use Rattle.promise.proofs.Laid.{bare, bared, bared_length, store_is}
use Rattle.promise.proofs.Made.{never_event}
use Rattle.promise.proofs.Upcoming.{upcoming_length, left_count, same_upcoming, goes_on, ends_here}

-- ---- the finished places

-- A TRB's store clears its place; the TRB that stood in the slot before is a round behind.
module _ (K : ℕ) (some_place : 0 < K) (finished : List ℕ) (stored heard place : ℕ) (here : (pos K stored).place ≡ place) (room : 4 * place + 4 ≤ length finished)
    (old : Places K finished stored heard) where
  pub places_cleared : Places K (clear_place finished place) (suc stored) heard
  places_cleared i event l said =
      ⊎_elim
      (λ (q : i ≡ place). absurd
      (never_event event (sym (cleared finished place room) ∙ subst (λ (x : ℕ). finished_at (clear_place finished place) x ≡ Some event) q said)))
      (λ (d : i ≡ place → ⊥).
      let o = old i event l (sym (others_kept finished place room (record { w0 = 0; w1 = 0; w2 = 0; w3 = 0 }) i d) ∙ said) in
      let again : (pos K (o.latest + K)).place ≡ i = ap (λ (p : model.Position). p.place) (period K some_place o.latest) ∙ o.there in
      let not-it : o.latest + K ≡ stored → ⊥ = λ q. d (sym again ∙ ap (λ (n : ℕ). (pos K n).place) q ∙ here) in
      record {
        latest = o.latest;
        there = o.there;
        was_stored = omega (arith, o.was_stored);
        not_again = omega (arith, o.not_again);
        was_heard = o.was_heard;
        fine = o.fine;
      })
      (same_or_not i place)

module _ (w : World) (h : Sound w.dock) (k : Kept w) where
  abbrev e : Endpoint
  e = w.dock.endpoint

  abbrev v : Record
  v = record_at w.dock.records e.work.number

  abbrev packets : List ℕ
  packets = w.dock.packets

  abbrev m : model.State (flat k.K)
  m = model_in k.K w k.before k.work

  some_place : 0 < k.K
  some_place = omega (arith, k.some_slot)

  -- ---- what a store has to show

  -- The model's state after it, with another ring, another position and less to do.
  abbrev then : List ℕ → Position → model.Work (flat k.K) → model.State (flat k.K)
  then ring at work = model_of k.K ring at w.controller w.consumed w.trbs e.account.outstanding k.before work

  next_kept : (after : Endpoint) (ring finished : List ℕ) (work : model.Work (flat k.K)) (stored : ℕ)
      → after.shape ≡ e.shape → after.account ≡ e.account → LinkSlot k.K e.shape.base ring → model.store m ≡ then ring after.at work
      → Under k.K after w.dock.records packets (w.first after.work.number) k.before work
      → (after.work.busy ≡ true → Begun k.K after w.dock.records w.first (length w.trbs))
      → stored + length (pending work) ≡ length w.trbs → Places k.K finished stored w.heard
      → Kept (with_dock w (state_of after ring finished w.dock.records packets))
  next_kept after ring finished work stored shape account linked same under begun split places = record {
    K = k.K;
    some_slot = k.some_slot;
    shape = rw shape k.shape;
    link_slot = rw shape linked;
    before = k.before;
    work = work;
    inv = rw account (subst (λ (x : model.State (flat k.K)). Inv x) same (store_keeps some_place m k.inv));
    numbered =
        rw account (subst (λ (x : model.State (flat k.K)). Numbered x (bared w.trbs)) same
        (store_numbered some_place m k.inv (bared w.trbs) k.numbered));
    under = under;
    begun = begun;
    stored = stored;
    split = split;
    heard_consumed = k.heard_consumed;
    places = places;
    flights = rw account k.flights;
  }

  -- A store keeps the record, the first place and the count of the submission under way.
  keep_begun : (n : Next) → e.work.busy ≡ true → Begun k.K (stepped n e v packets) w.dock.records w.first (length w.trbs)
  keep_begun n busy =
      let s = step_works n e v packets in
      let b = k.begun busy in
      record { last = rw s.number b.last; first_at_lem = rw (s.number, s.place) b.first_at_lem }

  -- The model's store, by what is left and by whether the producer is at the link.
  store_by : (work : model.Work (flat k.K)) (b : Bool) → k.work ≡ work → eqb e.at.place k.K ≡ b
      → model.store m ≡ model.store_as m (position_of e.at) work b
  unfolding model.store
  store_by work b p q = rw (p, q)

  put_is : (i : ℕ) (x : Words) (p : model.Position) (work : model.Work (flat k.K)) (ring : List ℕ) (at : Position)
      → set_slot w.dock.ring i x ≡ ring → p ≡ position_of at → model.put m i x p work ≡ then ring at work
  put_is i x p work ring at q s =
      ap₂
      (λ (y : List ℕ) (z : model.Position).
      record {
        ring = y;
        producer = z;
        work = work;
        controller = m.controller;
        live = true;
        consumed = m.consumed;
        admitted = m.admitted;
        before = m.before;
        outstanding = m.outstanding;
      })
      q s

  -- ---- where the producer stands, and what is next

  abbrev count : ℕ
  count = trb_count v

  abbrev now : ℕ
  now = e.work.stored

  place_in : e.at.place ≤ k.K
  place_in = k.inv.good.producer_in

  ring_room : 4 * e.at.place + 4 ≤ length w.dock.ring
  ring_room = omega (arith, place_in, h.ring_long, k.shape)

  place_room : 4 * e.at.place + 4 ≤ length w.dock.finished
  place_room = omega (arith, place_in, h.finished_long, k.shape)

  -- The state of the dock after a store of each kind.
  abbrev after : Next → State
  after n =
      state_of (settled (stepped n e v packets) v) (ring_stored n e v packets w.dock.ring)
      (finished_stored n e w.dock.finished) w.dock.records packets

  keeps_on : (n : Next) → is_none (next_of (stepped n e v packets) v) ≡ false → settled (stepped n e v packets) v ≡ stepped n e v packets
  unfolding settled
  keeps_on n q = rw q

  is_over_lem : (n : Next) → is_none (next_of (stepped n e v packets) v) ≡ true
      → settled (stepped n e v packets) v ≡ with_store (stepped n e v packets) (stepped n e v packets).at (stepped n e v packets).periodic.frame idle
  unfolding settled
  is_over_lem n q = rw q

  -- ---- the link's slot

  link_as_was : (place : ℕ) (t : Trb) (c : Bool) → 4 * place + 4 ≤ length w.dock.ring → (place ≡ k.K → ⊥)
      → LinkSlot k.K e.shape.base (store_at w.dock.ring place t c)
  link_as_was place t c room off = rw (store_other w.dock.ring place t c room k.K (λ q. off (sym q))) k.link_slot

  off_link : (e.at.place ≡ k.K → ⊥) → LinkSlot k.K e.shape.base (ring_stored the_trb e v packets w.dock.ring)
  unfolding ring_stored
  off_link off = link_as_was e.at.place (trb_of e v packets e.work.stored) (first_cycle e v) ring_room off

  off_first : e.work.place + 1 < e.shape.slots → LinkSlot k.K e.shape.base (ring_stored the_first e v packets w.dock.ring)
  unfolding ring_stored
  off_first low = link_as_was e.work.place (first_trb e v packets) e.work.cycle (omega (arith, h.ring_long)) (λ q. omega (arith, k.shape))

  own_link : e.at.place ≡ k.K → LinkSlot k.K e.shape.base (ring_stored the_link e v packets w.dock.ring)
  unfolding ring_stored
  own_link at-link t = (
    chained e v,
    e.at.cycle,
    subst (λ (i : ℕ). words_at (store_at w.dock.ring e.at.place (link_for e v) e.at.cycle) i ≡ words_of (link_for e v) e.at.cycle) at-link
        (store_same w.dock.ring e.at.place (link_for e v) e.at.cycle ring_room),
  )

  -- ---- the stores of the model

  abbrev link : Words
  link = link_words e v

  link_same : (rest : List Words) (again : Option (model.Entry (flat k.K))) → k.work ≡ model.busy rest link again → e.at.place ≡ k.K
      → model.store m ≡ then (ring_stored the_link e v packets w.dock.ring) (around e.at)
      (model.leaves (model.around (position_of e.at)) rest link again)
  unfolding ring_stored
  link_same rest again is at-link =
      store_by (model.busy rest link again) true is (eq-eqb _ _ at-link)
      ∙ put_is k.K (set_cycle e.at.cycle link) (model.around (position_of e.at))
      (model.leaves (model.around (position_of e.at)) rest link again)
      (store_at w.dock.ring e.at.place (link_for e v) e.at.cycle) (around e.at)
      (ap (λ (i : ℕ). set_slot w.dock.ring i (set_cycle e.at.cycle link)) (sym at-link) ∙ store_is
      w.dock.ring e.at.place (link_for e v) e.at.cycle ring_room)
      refl

  on_one : model.advance (position_of e.at) ≡ position_of (onward e.at)
  on_one = rw add-one

  trb_same : (rest : List Words) (again : Option (model.Entry (flat k.K))) → k.work ≡ model.busy (bare (trb_of e v packets now) ∷ rest) link again
      → (e.at.place ≡ k.K → ⊥) → first_cycle e v ≡ e.at.cycle
      → model.store m ≡ then (ring_stored the_trb e v packets w.dock.ring) (onward e.at)
      (model.leaves (model.advance (position_of e.at)) rest link again)
  unfolding ring_stored
  trb_same rest again is off current =
      store_by (model.busy (bare (trb_of e v packets now) ∷ rest) link again) false is (ne_eqb _ _ off)
      ∙ put_is e.at.place (set_cycle e.at.cycle (bare (trb_of e v packets now))) (model.advance (position_of e.at))
      (model.leaves (model.advance (position_of e.at)) rest link again)
      (store_at w.dock.ring e.at.place (trb_of e v packets now) (first_cycle e v)) (onward e.at)
      (store_is w.dock.ring e.at.place (trb_of e v packets now) e.at.cycle ring_room
      ∙ ap (store_at w.dock.ring e.at.place (trb_of e v packets now)) (sym current))
      on_one

  -- The TRB that is next, and those behind it.
  abbrev behind : List Words
  behind = bared (upcoming (count - (now + 1)) (stepped the_trb e v packets) v packets)

  next_left : now < count → left k.K e w.dock.records packets ≡ bare (trb_of e v packets now) ∷ behind
  unfolding upcoming
  next_left more =
      let one : count - now ≡ suc (count - (now + 1)) = omega arith in
      rw one refl

  behind_count : length behind ≡ count - (now + 1)
  behind_count =
      bared_length (upcoming (count - (now + 1)) (stepped the_trb e v packets) v packets) ∙ upcoming_length
      (count - (now + 1)) (stepped the_trb e v packets) v packets

  none_left : now ≡ count → left k.K e w.dock.records packets ≡ []
  unfolding upcoming
  none_left q = let z : count - now ≡ 0 = omega arith in rw z refl

  -- The link's store changes nothing of what is to be stored.
  link_left : left k.K (stepped the_link e v packets) w.dock.records packets ≡ left k.K e w.dock.records packets
  unfolding stepped
  link_left =
      ap bared (same_upcoming v packets (count - now) (stepped the_link e v packets) e
      (record { stored = refl; address = refl; number = refl; packet = refl; burst = refl }))

  -- What is left, where something is, or the first TRB is to be stored again, is what was left.
  leaves_some : (p : model.Position) (l : List Words) (again : Option (model.Entry (flat k.K))) → 0 < length l → model.leaves {S =
      flat k.K} p l link again ≡ model.busy l link again
  leaves_some p [] again more = absurd (omega arith)
  leaves_some p (x ∷ xs) again more = refl

  leaves_again : (p : model.Position) (l : List Words) (a : model.Entry (flat k.K)) → model.leaves {S =
      flat k.K} p l link (some a) ≡ model.busy l link (some a)
  leaves_again p [] a = refl
  leaves_again p (x ∷ xs) a = refl

  -- The link and the first TRB, which is to be stored again, are the same behind a store.
  abbrev busy_with : List Words → Trb → Option (model.Entry (flat k.K)) → model.Work (flat k.K)
  busy_with l t again = model.busy l (bare t) again

  same_link : (n : Next) (l : List Words) → busy_with l (link_for e v) none ≡ busy_with l (link_for (stepped n e v packets) v) none
  same_link n l = ap (λ (t : Trb). busy_with l t none) (sym (link_kept n e v packets))

  abbrev again_at : ℕ → Bool → Trb → model.Entry (flat k.K)
  again_at place cycle t = model.placed (flat k.K) (record { place = place; cycle = cycle }) (bare t)

  abbrev again_of : Endpoint → model.Entry (flat k.K)
  again_of x = again_at x.work.place x.work.cycle (first_trb x v packets)

  abbrev again : model.Entry (flat k.K)
  again = again_of e

  again_kept : (n : Next) → deferred v ≡ true → again ≡ again_of (stepped n e v packets)
  again_kept n late =
      let s = step_works n e v packets in
      ap (again_at e.work.place e.work.cycle) (first_same e (stepped n e v packets) v packets packets late)
      ∙ ap₂ (λ (place : ℕ) (cycle : Bool). again_at place cycle (first_trb (stepped n e v packets) v packets)) (sym s.place) (sym s.cycle)

  same_again : (n : Next) → deferred v ≡ true → (l : List Words)
      → busy_with l (link_for e v) (some again) ≡ busy_with l (link_for (stepped n e v packets) v) (some (again_of (stepped n e v packets)))
  same_again n late l =
      ap₂ (λ (t : Trb) (a : model.Entry (flat k.K)). busy_with l t (some a)) (sym (link_kept n e v packets)) (again_kept n late)

  -- Where nothing is, the link is due at L-1, and else nothing is.
  leaves_none : (p : model.Position) → (p.place ≡ k.K → ⊥) → model.leaves {S = flat k.K} p [] link none ≡ model.idle
  leaves_none p off = rw (ne_eqb p.place k.K off)

  leaves_link : (p : model.Position) → p.place ≡ k.K → model.leaves {S = flat k.K} p [] link none ≡ model.busy [] link none
  leaves_link p at-link = rw (eq-eqb p.place k.K at-link)

  -- How many are stored, once it is known what is under way.
  stored_is : (work : model.Work (flat k.K)) → k.work ≡ work → k.stored + length (pending work) ≡ length w.trbs
  stored_is work q = ap (λ (x : model.Work (flat k.K)). k.stored + length (pending x)) (sym q) ∙ k.split

  cleared_places : (e.at.place ≡ k.K → ⊥) → Places k.K (finished_stored the_trb e w.dock.finished) (suc k.stored) w.heard
  unfolding finished_stored
  cleared_places off =
      places_cleared k.K some_place w.dock.finished k.stored w.heard e.at.place (next_at w k off) place_room k.places

  -- ---- a TD that is not deferred

  module _ (u : Shows k.K e w.dock.records packets (w.first e.work.number) k.before k.work) where
    other : (deferred v ≡ true) × (now ≡ count) → ⊥
    other q = false≢true (sym u.early ∙ q.0)

    -- The link, with TRBs still to come,
    shows_link_more : e.at.place ≡ k.K → now < count → Kept (with_dock w (after the_link))
    unfolding stepped finished_stored
    shows_link_more at-link more =
        let on = keeps_on the_link (goes_on (stepped the_link e v packets) v (inr (inl more))) in
        let rest = left k.K e w.dock.records packets in
        rw on
        (next_kept (stepped the_link e v packets) _ w.dock.finished (model.busy rest link none) k.stored refl refl (own_link at-link)
        (link_same rest none u.is at-link ∙ ap (then _ (around e.at))
        (leaves_some (model.around (position_of e.at)) rest none (omega (arith, left_count k.K e w.dock.records packets))))
        (shows (record {
          taken = refl;
          early = u.early;
          counted = u.counted;
          is = ap (λ (l : List Words). model.busy l link none) (sym link_left) ∙ same_link the_link _;
        }))
        (λ b. keep_begun the_link u.taken)
        (stored_is (model.busy rest link none) u.is) k.places)

    -- or as the last store;
    shows_link_last : e.at.place ≡ k.K → now ≡ count → Kept (with_dock w (after the_link))
    unfolding stepped finished_stored
    shows_link_last at-link all =
        let over =
        is_over_lem the_link (ends_here (stepped the_link e v packets) v (λ (q : 0 + 1 ≡ e.shape.slots). omega (arith, k.shape, k.some_slot))
        (omega arith) (λ q. other q)) in
        let rest = left k.K e w.dock.records packets in
        let None-more = none_left all in
        let is : k.work ≡ model.busy [] link none = u.is ∙ ap (λ (l : List Words). model.busy l link none) None-more in
        rw over
        (next_kept _ _ w.dock.finished model.idle k.stored refl refl (own_link at-link)
        (link_same [] none is at-link ∙ ap (then _ (around e.at))
        (leaves_none (model.around (position_of e.at)) (λ (q : 0 ≡ k.K). omega (arith, k.some_slot))))
        (rests (record { free = refl; is = refl }))
        (λ b. absurd (false≢true b))
        (stored_is (model.busy [] link none) is) k.places)

    current : first_cycle e v ≡ e.at.cycle
    current = trb_current e v (λ q. false≢true (sym u.early ∙ q.0))

    next_work : now < count → k.work ≡ model.busy (bare (trb_of e v packets now) ∷ behind) link none
    next_work more = u.is ∙ ap (λ (l : List Words). model.busy l link none) (next_left more)

    -- a TRB, with others to come,
    shows_trb_more : (e.at.place ≡ k.K → ⊥) → now + 1 < count → Kept (with_dock w (after the_trb))
    unfolding stepped
    shows_trb_more off more =
        let on = keeps_on the_trb (goes_on (stepped the_trb e v packets) v (inr (inl more))) in
        let is = next_work (omega arith) in
        rw on
        (next_kept (stepped the_trb e v packets) _ _ (model.busy behind link none) (suc k.stored) refl refl (off_link off)
        (trb_same behind none is off current ∙ ap (then _ (onward e.at))
        (leaves_some (model.advance (position_of e.at)) behind none (omega (arith, behind_count))))
        (shows (record { taken = refl; early = u.early; counted = omega arith; is = same_link the_trb behind }))
        (λ b. keep_begun the_trb u.taken)
        (omega (arith, stored_is _ is)) (cleared_places off))

    -- as the last TRB, with the link to come,
    no_more : now + 1 ≡ count → behind ≡ []
    unfolding upcoming
    no_more q = let z : count - (now + 1) ≡ 0 = omega arith in rw z refl

    shows_trb_link : (e.at.place ≡ k.K → ⊥) → now + 1 ≡ count → suc e.at.place ≡ k.K → Kept (with_dock w (after the_trb))
    unfolding stepped
    shows_trb_link off all due =
        let on = keeps_on the_trb (goes_on (stepped the_trb e v packets) v (inl (omega (arith, k.shape)))) in
        let is = next_work (omega arith) in
        let None-more = no_more all in
        rw on
        (next_kept (stepped the_trb e v packets) _ _ (model.busy behind link none) (suc k.stored) refl refl (off_link off)
        (trb_same behind none is off current
        ∙ ap (then _ (onward e.at))
        (ap (λ (l : List Words). model.leaves (model.advance (position_of e.at)) l link none) None-more
        ∙ leaves_link (model.advance (position_of e.at)) due
        ∙ ap (λ (l : List Words). model.busy l link none) (sym None-more)))
        (shows (record { taken = refl; early = u.early; counted = omega arith; is = same_link the_trb behind }))
        (λ b. keep_begun the_trb u.taken)
        (omega (arith, stored_is _ is)) (cleared_places off))

    -- and as the last store.
    shows_trb_last : (e.at.place ≡ k.K → ⊥) → now + 1 ≡ count → (suc e.at.place ≡ k.K → ⊥) → Kept (with_dock w (after the_trb))
    unfolding stepped
    shows_trb_last off all not-due =
        let over =
        is_over_lem the_trb (ends_here (stepped the_trb e v packets) v (λ q. not-due (omega (arith, k.shape))) (omega arith) (λ q. false≢true (sym u.early ∙ q.0))) in
        let is = next_work (omega arith) in
        let None-more = no_more all in
        rw over
        (next_kept _ _ _ model.idle (suc k.stored) refl refl (off_link off)
        (trb_same behind none is off current
        ∙ ap (then _ (onward e.at))
        (ap (λ (l : List Words). model.leaves (model.advance (position_of e.at)) l link none) None-more
        ∙ leaves_none (model.advance (position_of e.at)) not-due))
        (rests (record { free = refl; is = refl }))
        (λ b. absurd (false≢true b))
        (omega (arith, stored_is _ is, behind_count)) (cleared_places off))

  -- ---- a deferred TD

  module _ (u : Hides k.K e w.dock.records packets (w.first e.work.number) k.before k.work) where
    to_come : (now < count) ⊎ ((deferred v ≡ true) × (now ≡ count))
    to_come = ⊎_elim (λ (l : now < count). inl l) (λ (l : count ≤ now). inr (u.late, omega (arith, u.counted))) (lt_or_le now count)

    -- The link;
    hides_link : e.at.place ≡ k.K → Kept (with_dock w (after the_link))
    unfolding stepped finished_stored
    hides_link at-link =
        let on = keeps_on the_link (goes_on (stepped the_link e v packets) v (inr to_come)) in
        let rest = left k.K e w.dock.records packets in
        rw on
        (next_kept (stepped the_link e v packets) _ w.dock.finished (model.busy rest link (some again)) k.stored refl refl (own_link at-link)
        (link_same rest (some again) u.is at-link ∙ ap (then _ (around e.at)) (leaves_again (model.around (position_of e.at)) rest again))
        (hides (record {
          taken = refl;
          late = u.late;
          some_stored = u.some_stored;
          counted = u.counted;
          marked = u.marked;
          is = ap (λ (l : List Words). model.busy l link (some again)) (sym link_left) ∙ same_again the_link u.late _;
        }))
        (λ b. keep_begun the_link u.taken)
        (stored_is (model.busy rest link (some again)) u.is) k.places)

    -- a TRB behind the first;
    hides_trb : (e.at.place ≡ k.K → ⊥) → now < count → Kept (with_dock w (after the_trb))
    unfolding stepped
    hides_trb off more =
        let on = keeps_on the_trb (goes_on (stepped the_trb e v packets) v
        (inr (⊎_elim (λ (l : now + 1 < count). inl l) (λ (l : count ≤ now + 1). inr (u.late, omega arith)) (lt_or_le (now + 1) count)))) in
        let is : k.work ≡ model.busy (bare (trb_of e v packets now) ∷ behind) link (some again) =
        u.is ∙ ap (λ (l : List Words). model.busy l link (some again)) (next_left more) in
        rw on
        (next_kept (stepped the_trb e v packets) _ _ (model.busy behind link (some again)) (suc k.stored) refl refl (off_link off)
        (trb_same behind (some again) is off (trb_current e v (λ q. omega (arith, q.1, u.some_stored)))
        ∙ ap (then _ (onward e.at)) (leaves_again (model.advance (position_of e.at)) behind again))
        (hides (record { taken = refl; late = u.late; some_stored = omega arith; counted = omega arith; marked = u.marked; is = same_again the_trb u.late behind }))
        (λ b. keep_begun the_trb u.taken)
        (omega (arith, stored_is _ is)) (cleared_places off))

    -- and the first TRB again: nothing is under way then.
    hides_first : e.work.place + 1 < e.shape.slots → (e.at.place ≡ k.K → ⊥) → now ≡ count → Kept (with_dock w (after the_first))
    unfolding stepped finished_stored ring_stored
    hides_first low off all =
        let over =
        is_over_lem the_first (ends_here (stepped the_first e v packets) v (λ q. off (omega (arith, k.shape))) (omega arith) (λ q. omega (arith, q.1))) in
        let is : k.work ≡ model.busy [] link (some again) = u.is ∙ ap (λ (l : List Words). model.busy l link (some again)) (none_left all) in
        rw over
        (next_kept _ _ w.dock.finished model.idle k.stored refl refl (off_first low)
        (store_by (model.busy [] link (some again)) false is (ne_eqb _ _ off)
        ∙ put_is e.work.place (set_cycle e.work.cycle (bare (first_trb e v packets))) (position_of e.at) model.idle
        (store_at w.dock.ring e.work.place (first_trb e v packets) e.work.cycle) e.at
        (store_is w.dock.ring e.work.place (first_trb e v packets) e.work.cycle (omega (arith, h.ring_long))) refl)
        (rests (record { free = refl; is = refl }))
        (λ b. absurd (false≢true b))
        (stored_is (model.busy [] link (some again)) is) k.places)

  -- The first TRB's first store, with the opposite cycle.
  module _ (u : Opens k.K e w.dock.records packets (w.first e.work.number) k.before k.work) where
    opens_off : e.at.place ≡ k.K → ⊥
    opens_off = (doing_of m k.inv u.is).off_link

    some_left : now < count
    some_left = omega (arith, left_count k.K e w.dock.records packets, ap length u.left_are)

    -- It is the TRB that is stored again.
    first_is : trb_of e v packets now ≡ first_trb e v packets
    first_is = ap (trb_of e v packets) u.none_stored

    both_are : (u.head ∷ u.others) ≡ bare (trb_of e v packets now) ∷ behind
    both_are = sym u.left_are ∙ next_left some_left

    head_is : u.head ≡ bare (trb_of e v packets now)
    head_is = let q = both_are in cc

    others_are : u.others ≡ behind
    others_are = let q = both_are in cc

    opens_same : model.store m ≡ then (ring_stored the_trb e v packets w.dock.ring) (onward e.at) (model.busy behind link (some again))
    unfolding ring_stored
    opens_same =
        let p = position_of e.at in
        store_by (model.opening u.head u.others link) (eqb e.at.place k.K) u.is refl
        ∙ put_is e.at.place (set_cycle (not e.at.cycle) u.head) (model.advance p)
        (model.busy u.others link (some (model.placed (flat k.K) p u.head)))
        (store_at w.dock.ring e.at.place (trb_of e v packets now) (first_cycle e v)) (onward e.at)
        (ap (λ (x : Words). set_slot w.dock.ring e.at.place (set_cycle (not e.at.cycle) x)) head_is
        ∙ store_is w.dock.ring e.at.place (trb_of e v packets now) (not e.at.cycle) ring_room
        ∙ ap (store_at w.dock.ring e.at.place (trb_of e v packets now)) (sym (first_hidden e v u.late u.none_stored)))
        on_one
        ∙ ap (then (store_at w.dock.ring e.at.place (trb_of e v packets now) (first_cycle e v)) (onward e.at))
        (ap₂ (λ (l : List Words) (x : model.Entry (flat k.K)). model.busy l link (some x)) others_are
        (ap₂ (λ (q : model.Position) (x : Words). model.placed (flat k.K) q x) (sym u.at_first) (head_is ∙ ap bare first_is)))

    opens_trb : Kept (with_dock w (after the_trb))
    unfolding stepped
    opens_trb =
        let on = keeps_on the_trb (goes_on (stepped the_trb e v packets) v
        (inr (⊎_elim (λ (l : now + 1 < count). inl l) (λ (l : count ≤ now + 1). inr (u.late, omega (arith, some_left)))
        (lt_or_le (now + 1) count)))) in
        rw on
        (next_kept (stepped the_trb e v packets) _ _ (model.busy behind link (some again))
        (suc k.stored) refl refl (off_link opens_off) opens_same
        (hides (record {
          taken = refl;
          late = u.late;
          some_stored = omega arith;
          counted = omega
              (arith, some_left);
          marked = u.marked;
          is = same_again the_trb u.late behind;
        }))
        (λ b. keep_begun the_trb u.taken)
        (omega (arith, stored_is _ u.is, ap length others_are)) (cleared_places opens_off))

  -- ---- which store is next

  -- With nothing left of a TD that is not deferred, the link is due.
  due : (u : Shows k.K e w.dock.records packets (w.first e.work.number) k.before k.work) → (e.at.place ≡ k.K → ⊥) → now < count
  due u off =
      ⊎_elim
      (λ (l : now < count). l)
      (λ (l : count ≤ now). absurd (off ((doing_of m k.inv u.is).due (none_left (omega (arith, u.counted))))))
      (lt_or_le now count)

  not_last : (e.at.place ≡ k.K → ⊥) → e.at.place + 1 ≡ e.shape.slots → ⊥
  not_last off q = off (omega (arith, k.shape))

  by_next : (n : Next) → next_of e v ≡ n → Kept (with_dock w (after n)) → Kept (with_dock w (after (next_of e v)))
  by_next n q x = subst (λ (y : Next). Kept (with_dock w (after y))) (sym q) x

  stored_shown : (u : Shows k.K e w.dock.records packets (w.first e.work.number) k.before k.work)
      → Kept (with_dock w (after (next_of e v)))
  stored_shown u =
      ⊎_elim
      (λ (at-link : e.at.place ≡ k.K).
      by_next the_link (is_next e v the_link (omega (arith, k.shape)))
      (⊎_elim
      (λ (l : now < count). shows_link_more u at-link l)
      (λ (l : count ≤ now). shows_link_last u at-link (omega (arith, u.counted)))
      (lt_or_le now count)))
      (λ (off : e.at.place ≡ k.K → ⊥).
      let more = due u off in
      by_next the_trb (is_next e v the_trb (not_last off, more))
      (⊎_elim
      (λ (l : now + 1 < count). shows_trb_more u off l)
      (λ (l : count ≤ now + 1).
      ⊎_elim
      (λ (q : suc e.at.place ≡ k.K). shows_trb_link u off (omega arith) q)
      (λ (q : suc e.at.place ≡ k.K → ⊥). shows_trb_last u off (omega arith) q)
      (same_or_not (suc e.at.place) k.K))
      (lt_or_le (now + 1) count)))
      (same_or_not e.at.place k.K)

  stored_hidden : (u : Hides k.K e w.dock.records packets (w.first e.work.number) k.before k.work)
      → e.work.place + 1 < e.shape.slots
      → Kept (with_dock w (after (next_of e v)))
  stored_hidden u low =
      ⊎_elim
      (λ (at-link : e.at.place ≡ k.K). by_next the_link (is_next e v the_link (omega (arith, k.shape))) (hides_link u at-link))
      (λ (off : e.at.place ≡ k.K → ⊥).
      ⊎_elim
      (λ (l : now < count). by_next the_trb (is_next e v the_trb (not_last off, l)) (hides_trb u off l))
      (λ (l : count ≤ now).
      let all : now ≡ count = omega (arith, u.counted) in
      by_next the_first (is_next e v the_first (not_last off, u.late, all)) (hides_first u low off all))
      (lt_or_le now count))
      (same_or_not e.at.place k.K)

  stored_open : Opens k.K e w.dock.records packets (w.first e.work.number) k.before k.work → Kept (with_dock w (after (next_of e v)))
  stored_open u = by_next the_trb (is_next e v the_trb (not_last (opens_off u), some_left u)) (opens_trb u)

  -- ---- the call

  store_acted : store_no e (length w.dock.ring) (length w.dock.finished) w.dock.records (length packets) ≡ 0
      → Kept (with_dock w (after (next_of e v)))
  store_acted passed =
      let s = store_admitted e w.dock.ring w.dock.finished w.dock.records packets passed in
      by s.busy s.course.first k.under
    where
      by : e.work.busy ≡ true → (deferred v ≡ true → e.work.place + 1 < e.shape.slots)
          → Under k.K e w.dock.records packets (w.first e.work.number) k.before k.work → Kept (with_dock w (after (next_of e v)))
      by busy low (rests u) = absurd (false≢true (sym u.free ∙ busy))
      by busy low (opens u) = stored_open u
      by busy low (shows u) = stored_shown u
      by busy low (hides u) = stored_hidden u (low u.late)

  pub stored_kept : Kept (act w (calls stores))
  stored_kept =
      ⊎_elim
      (λ (p : store_no e (length w.dock.ring) (length w.dock.finished) w.dock.records (length packets) ≡ 0).
      rw (store_acts e w.dock.ring w.dock.finished w.dock.records packets p) (store_acted p))
      (λ (p : store_no e (length w.dock.ring) (length w.dock.finished) w.dock.records (length packets) ≡ 0 → ⊥).
      rw (store_refuses e w.dock.ring w.dock.finished w.dock.records packets p) k)
      (same_or_not (store_no e (length w.dock.ring) (length w.dock.finished) w.dock.records (length packets)) 0)

-- An event that is handed over keeps the invariant. It is for a TRB that no event has passed, so that TRB is the last that was stored in its slot: fewer
-- than L-1 were stored after the last one that an event came for. Assumes nothing.
use Rattle.std.specs.Prelude.{Some}
use Prim.Native.Nat.{ℕ, suc, ◌+◌, ◌*◌, ◌<◌, ◌≤◌}
use mathlib.Core.Bool.{true, false, not, ◌||◌, false≢true}
use mathlib.Core.List.{List}
use mathlib.Core.Logic.{inl, ⊎_elim}
use mathlib.Core.Path.{◌≡◌, refl, sym, ap, subst, ◌∙◌}
use native.Mathlib.Omega.{arith}
use lib.Dec.{eqb}
use lib.ListN.{length, get_or}
use Rattle.base.proofs.Compare.{same_or_not}
use Rattle.base.proofs.Decide.{by_leb, by_ltb, by_eqb, by_true, both}
use Rattle.event.specs.Event.{event_of}
use Rattle.trb.specs.declared.Words.{Words}
use Rattle.mask.specs.declared.Occupancy.{Occupancy}
use Rattle.ids.proofs.AnyLaws.{true_or_false}
use Rattle.ring.specs.Ring.{slot_address, slot_of}
use Rattle.ring.proofs.SlotLaws.{slot_found}
use Rattle.finished.specs.Finished.{finished_at, fill_place}
use Rattle.finished.proofs.FinishedLaws.{taken, kept, others_kept}
use Rattle.dock.specs.declared.Endpoint.{Endpoint}
use Rattle.dock.specs.declared.Shape.{Shape}
use Rattle.dock.specs.HandOver.{slot_number, slot_for, foreign, hand_over_tests, hand_over_no}
use Rattle.dock.specs.Reclaim.{code_of}
use Rattle.dock.specs.Worth.{accepted}
use Rattle.dock.proofs.Reached.{Sound}
use Rattle.dock.specs.Run.{state_of}
use Rattle.dock.proofs.RefusalLaws.{hand_over_exact, hand_over_refuses, hand_over_acts}
use Rattle.dock.proofs.RefusalTestLaws.{by_foreign}
use Rattle.order.specs.Flat.{flat}
use Rattle.order.specs.Model.{idle}
use Rattle.order.specs.Model as model
use Rattle.order.proofs.Index.{pos, slot_lt}
use Rattle.order.proofs.Moves.{pending}
use Rattle.promise.specs.Run.{World, with_heard, takes, handed, slot_at, is_for}
use Rattle.promise.proofs.Agreed.{Agreed, event_yes, event_no}
use Rattle.promise.proofs.Awaited.{awaited, consumed_few, consumed_at}
use Rattle.promise.proofs.Kept.{Kept, Under, rests, opens, shows, hides, Latest, Places, Flights}

-- ---- with none under way

-- The model's work is idle where the dock's is.
pub at_rest : (K : ℕ) (e : Endpoint) (records packets : List ℕ) (mark before : ℕ) (work : model.Work (flat K))
    → Under K e records packets mark before work
    → e.work.busy ≡ false → work ≡ idle
at_rest K e records packets mark before work (rests u) free = u.is
at_rest K e records packets mark before work (opens u) free = absurd (false≢true (sym free ∙ u.taken))
at_rest K e records packets mark before work (shows u) free = absurd (false≢true (sym free ∙ u.taken))
at_rest K e records packets mark before work (hides u) free = absurd (false≢true (sym free ∙ u.taken))

pub idle_kept : (w : World) (k : Kept w) → w.dock.endpoint.work.busy ≡ false → k.work ≡ idle
idle_kept w k free =
    at_rest k.K w.dock.endpoint w.dock.records w.dock.packets (w.first w.dock.endpoint.work.number)
    k.before k.work k.under free

-- Then all is stored that is admitted.
pub all_stored : (w : World) (k : Kept w) → w.dock.endpoint.work.busy ≡ false → k.stored ≡ length w.trbs
all_stored w k free =
    let none : length (pending k.work) ≡ 0 = ap (λ (x : model.Work (flat k.K)). length (pending x)) (idle_kept w k free) in
    omega (arith, k.split)

-- ---- more is heard: nothing else changes

flights_heard : (K : ℕ) (records : List ℕ) (occupancy : Occupancy) (first : ℕ → ℕ) (total heard more : ℕ) → heard ≤ more
    → Flights K records occupancy first total heard → Flights K records occupancy first total more
flights_heard K records occupancy first total heard more h f = record { each = f.each; all = λ j a l. f.all j (omega arith) l }

latest_heard : (K stored heard more i : ℕ) (event : Words) → heard ≤ more → Latest K stored heard i event → Latest K stored more i event
latest_heard K stored heard more i event h l = record {
  latest = l.latest;
  there = l.there;
  was_stored = l.was_stored;
  not_again = l.not_again;
  was_heard = omega (arith, l.was_heard);
  fine = l.fine;
}

-- ---- an event that is taken

-- An event of type 32 has a fourth word.
typed_word : (event : Words) → (((event_of event).form ≡ 32 → ⊥) → ⊥) → event.w3 ≡ 0 → ⊥
typed_word event t z = t (λ e. omega arith)

same_event : (a b : Words) → Some a ≡ Some b → a ≡ b
same_event a b e = cc

module _ (K : ℕ) (finished : List ℕ) (stored heard n : ℕ) (event : Words)
    (room : 4 * (pos K n).place + 4 ≤ length finished) (typed : event.w3 ≡ 0 → ⊥)
    (before : heard ≤ n) (was : n < stored) (last : stored ≤ n + K) (fine : accepted (code_of event) ≡ true)
    (old : Places K finished stored heard) where
  abbrev place : ℕ
  place = (pos K n).place

  -- At its own place, empty or full,
  here : (e : Words) → finished_at (fill_place finished place event) place ≡ Some e → place < K → Latest K stored (suc n) place e
  here e said l =
      ⊎_elim
      (λ (empty : get_or finished (4 * place + 3) 0 ≡ 0).
      let same = same_event event e (sym (taken finished place room event empty typed) ∙ said) in
      record {
        latest =
            n;
        there = refl;
        was_stored = was;
        not_again = last;
        was_heard = omega arith;
        fine = subst (λ (x : Words). accepted (code_of x) ≡ true) same fine;
      })
      (λ (full : get_or finished (4 * place + 3) 0 ≡ 0 → ⊥).
      latest_heard K stored heard (suc n) place e (omega arith)
      (old place e l (ap (λ (x : List ℕ). finished_at x place) (sym (kept finished place room event full)) ∙ said)))
      (same_or_not (get_or finished (4 * place + 3) 0) 0)

  -- and at every other.
  elsewhere : (i : ℕ) → (i ≡ place → ⊥) → finished_at (fill_place finished place event) i ≡ finished_at finished i
  unfolding fill_place
  elsewhere i differs =
      ⊎_elim
      (λ (empty : eqb (get_or finished (4 * place + 3) 0) 0 ≡ true). rw empty (others_kept finished place room event i differs))
      (λ (full : eqb (get_or finished (4 * place + 3) 0) 0 ≡ false). rw full refl)
      (true_or_false (eqb (get_or finished (4 * place + 3) 0) 0))

  pub filled : Places K (fill_place finished place event) stored (suc n)
  filled i e l said =
      ⊎_elim
      (λ (q : i ≡ place). subst (λ (x : ℕ). Latest K stored (suc n) x e) (sym q)
      (here e (subst (λ (x : ℕ). finished_at (fill_place finished place event) x ≡ Some e) q said) (subst (λ (x : ℕ). x < K) q l)))
      (λ (d : i ≡ place → ⊥). latest_heard K stored heard (suc n) i e (omega arith) (old i e l (sym (elsewhere i d) ∙ said)))
      (same_or_not i place)

-- What the premise says of an event that is taken.
pub record IsFor (w : World) (event : Words) (n : ℕ) : Type 0 where
  pub after : w.heard ≤ n
  pub consumed : n < length w.consumed
  pub address : (event_of event).address ≡ slot_address w.asked.shape.base (slot_at w.consumed n)
  pub fine : accepted (code_of event) ≡ true

pub is_for_lem : (w : World) (event : Words) (n : ℕ) → is_for w event n ≡ true → IsFor w event n
unfolding is_for
is_for_lem w event n t =
    let a = (both (both (both (by_leb w.heard n) (by_ltb n (length w.consumed)))
    (by_eqb (event_of event).address (slot_address w.asked.shape.base (slot_at w.consumed n))))
    (by_true (accepted (code_of event)))).so t in
    record { after = a.0.0.0; consumed = a.0.0.1; address = a.0.1; fine = a.1 }

module _ (w : World) (event : Words) (n : ℕ) (h : Sound w.dock) (g : Agreed w) (k : Kept w) where
  abbrev e : Endpoint
  e = w.dock.endpoint

  some_place : 0 < k.K
  some_place = omega (arith, k.some_slot)

  taken_kept : hand_over_no e (length w.dock.finished) event ≡ 0 → IsFor w event n
      → Kept (with_heard w (state_of e w.dock.ring (fill_place w.dock.finished (slot_number (slot_for e event)) event)
      w.dock.records w.dock.packets) (suc n))
  unfolding hand_over_tests slot_for
  taken_kept passed f =
      let tests = (hand_over_exact e w.dock.finished event).passed passed in
      let free : e.work.busy ≡ false = tests 1 (omega arith) in
      let ours : foreign e event ≡ false = tests 2 (omega arith) in
      let place : ℕ = (pos k.K n).place in
      let small : place < k.K = slot_lt k.K some_place n in
      let at : slot_number (slot_for e event) ≡ place =
      ap (λ (a : ℕ). slot_number (slot_of e.shape.base e.shape.slots a))
      (f.address ∙ ap (λ (x : Shape). slot_address x.base (slot_at w.consumed n)) (sym g.shape)
      ∙ ap (slot_address e.shape.base) (consumed_at w k n f.consumed))
      ∙ ap slot_number (slot_found e.shape.base e.shape.slots place (omega (arith, k.shape))) in
      let all = all_stored w k free in
      let long = h.finished_long in
      let most = awaited w h k in
      let room = k.inv.room in
      let new : Places k.K (fill_place w.dock.finished place event) k.stored (suc n) =
      filled k.K w.dock.finished k.stored w.heard n event (omega (arith, k.shape))
      (typed_word event (λ t. (by_foreign e event).not_so ours (inl (inl (inl t)))))
      f.after (omega (arith, f.consumed, consumed_few w k)) (omega (arith, f.after)) f.fine k.places in
      rw at
      (record {
        K = k.K;
        some_slot = k.some_slot;
        shape = k.shape;
        link_slot = k.link_slot;
        before = k.before;
        work = k.work;
        inv = k.inv;
        numbered = k.numbered;
        under = k.under;
        begun = k.begun;
        stored = k.stored;
        split = k.split;
        heard_consumed = f.consumed;
        places = new;
        flights =
            flights_heard k.K w.dock.records e.account.occupancy w.first (length w.trbs) w.heard
            (suc n) (omega (arith, f.after)) k.flights;
      })

  -- A refused event is not bound, and changes nothing.
  pub handed_kept : (not (takes w event) || is_for w event n) ≡ true → Kept (handed w event n)
  unfolding handed
  handed_kept may =
      ⊎_elim
      (λ (p : hand_over_no e (length w.dock.finished) event ≡ 0).
      let taken = event_yes w event p in
      rw (taken, hand_over_acts e w.dock.finished event p) (taken_kept p (is_for_lem w event n (rw taken at may))))
      (λ (p : hand_over_no e (length w.dock.finished) event ≡ 0 → ⊥).
      rw (event_no w event p, hand_over_refuses e w.dock.finished event p) k)
      (same_or_not (hand_over_no e (length w.dock.finished) event) 0)

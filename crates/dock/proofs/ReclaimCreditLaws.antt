-- In every state that is reached from making: a packet that is reclaimed counts exactly what its event is worth, which is what the standard lets that
-- event count for; an ISO request that is done has every packet marked; and an event for any other slot changes nothing of a reclaim. Assumes nothing.
use Rattle.std.specs.Prelude.{Option, Some, Ok, Result}
use Prim.Native.Nat.{ℕ, ◌+◌, ◌*◌, ◌^◌, ◌≤◌, ◌<◌}
use mathlib.Core.Bool.{true, false}
use mathlib.Core.List.{List}
use mathlib.Core.Path.{◌≡◌, refl, ◌∙◌}
use native.Mathlib.Omega.{arith}
use lib.Dec.{eqb}
use lib.ListN.{length, get_or}
use Rattle.sizes.specs.Sizes.{record_count}
use Rattle.ids.specs.Lookup.{find_in}
use Rattle.event.specs.Event.{event_of}
use Rattle.trb.specs.declared.Words.{Words}
use Rattle.finished.specs.Finished.{finished_at, fill_place}
use Rattle.packets.specs.Packets.{packet_at}
use Rattle.records.specs.Kinds.{isoch}
use Rattle.records.specs.States.{in_flight}
use Rattle.records.specs.Records.{record_at}
use Rattle.packets.specs.declared.Packet.{Packet}
use Rattle.records.specs.declared.Record.{Record}
use Rattle.finished.proofs.FinishedLaws.{others_kept}
use Rattle.dock.specs.declared.Completion.{Completion}
use Rattle.dock.specs.declared.Refusal.{Refusal}
use Rattle.dock.specs.declared.Reclaimed.TheVariants as answer
use Rattle.dock.specs.Worth.{bytes, worth}
use Rattle.dock.specs.Residual.{Told, Tells, Writes, credit}
use Rattle.dock.specs.HandOver.{slot_number, slot_for, hand_over_no, hand_over}
use Rattle.dock.specs.Reclaim.{code_of, remaining_of, place_of, counted, reclaim}
use Rattle.dock.specs.Run.{State, hands, reclaims, Reached}
use Rattle.dock.specs.Run as run
use Rattle.dock.proofs.RetireLaws.{picked}
use Rattle.dock.proofs.ReachedSoundLaws.{slot_below, fill_long, slots_some, reached_sound}
use Rattle.dock.proofs.ReachedFitLaws.{reclaim_number}
use Rattle.dock.proofs.ReclaimOnceLaws.{Has, held_found}
use Rattle.dock.proofs.ReclaimSettleLaws.{Refuses}
use Rattle.dock.proofs.ReclaimCountLaws.{Walks, few, packet_exact, packet_moved, done_marked}
use Rattle.dock.proofs.ReachedPacketLaws.{reached_modest}
use Rattle.dock.proofs.ReclaimNeedLaws.{Needed, reclaim_needs}

-- ---- the packets of an ISO request in flight, with nothing under way

module _ {s : State} (h : Reached s) (idle : s.endpoint.work.busy ≡ false) (id r : ℕ) (l : r < record_count) (has : Has s id r)
    (flying : (record_at s.records r).state ≡ in_flight) (iso : (record_at s.records r).kind ≡ isoch) where
  abbrev v : Record
  v = record_at s.records r

  -- Packet k before the reclaim and after it, and what stands in its place.
  abbrev before : ℕ → Packet
  before k = packet_at s.packets r k

  abbrev after : ℕ → Packet
  after k = packet_at (run.after s (reclaims id)).packets r k

  abbrev stands : ℕ → Option Words
  stands k = finished_at s.finished (place_of s.endpoint.shape.slots v.place k)

  walks : Walks s.endpoint s.finished s.records s.packets id r
  walks = record { admitted = reclaim_number h id ∙ rw idle; holder = held_found s (reached_sound h) id r l has; flying = flying; iso = iso }

  module _ (k : ℕ) (low : k < v.count) (clear : (before k).marked ≡ false) (w : Words) (here : stands k ≡ Some w)
      (none : (j : ℕ) → j < k → Refuses (before j) (stands j) → ⊥) where
    small : (before k).requested < 2 ^ 31
    small = let n = few s.endpoint s.finished s.records s.packets id r walks in let m = reached_modest h r k l (omega arith) in omega arith

    -- A packet that is not marked counts what its event is worth,
    pub reached_counted : (n : ℕ) → worth (code_of w) (before k).requested (remaining_of w) ≡ bytes n → after k ≡ counted (before k) n
    reached_counted n is = packet_exact s.endpoint s.finished s.records s.packets id r walks k low clear w n small here is none

    -- which is, where the standard lets a controller write that event for n bytes moved, what it may be counted for.
    pub reached_moved : (t : Told) (n : ℕ) → Tells (code_of w) t → Writes t (before k).requested (remaining_of w) n → after k ≡ counted (before k) (credit t n)
    reached_moved t n says is = packet_moved s.endpoint s.finished s.records s.packets id r walks k low clear w t n small here says is none

  -- A request that is done has every packet marked.
  pub reached_done_marked : (c : Completion) → (reclaim s.endpoint s.finished s.records s.packets id).0.answer ≡ Ok (answer.Done c)
      → (k : ℕ) → k < v.count → (after k).marked ≡ true
  reached_done_marked = done_marked s.endpoint s.finished s.records s.packets id r walks

-- ---- events elsewhere

other_places : (finished : List ℕ) (slot : ℕ) (event : Words) → 4 * slot + 4 ≤ length finished → (p : ℕ) → (p ≡ slot → ⊥) → finished_at (fill_place finished slot event) p ≡ finished_at finished p
unfolding fill_place
other_places finished slot event within p d =
    picked (λ (x : List ℕ). finished_at x p ≡ finished_at finished p) (eqb (get_or finished (4 * slot + 3) 0) 0) _ _
    (λ t. others_kept finished slot within event p d) (λ t. refl)

-- An event that is handed over for a slot whose event the reclaim does not need changes nothing of it.
pub event_elsewhere : {s : State} → Reached s → (event : Words) (id : ℕ)
    → ((r p : ℕ) → find_in s.records s.endpoint.account.occupancy id ≡ Some r → Needed s.endpoint s.packets (record_at s.records r) r p
    → p ≡ slot_number (slot_for s.endpoint event) → ⊥)
    → reclaim s.endpoint (run.after s (hands event)).finished s.records s.packets id ≡ reclaim s.endpoint s.finished s.records s.packets id
unfolding hand_over slot_for
event_elsewhere {s} h event id apart =
    let e = s.endpoint in
    let sound = reached_sound h in
    picked (λ (a : Result ℕ Refusal × List ℕ). reclaim e a.1 s.records s.packets id ≡ reclaim e s.finished s.records s.packets id)
    (eqb (hand_over_no e (length s.finished) event) 0) _ _
    (λ t.
    let slot = slot_number (slot_for e event) in
    let below = slot_below e.shape.base e.shape.slots (event_of event).address (omega (arith, slots_some s sound)) in
    let within : 4 * slot + 4 ≤ length s.finished = omega (arith, sound.finished_long) in
    reclaim_needs e s.finished (fill_place s.finished slot event) s.records s.packets id (fill_long s.finished slot event within)
    (λ r p at needs. other_places s.finished slot event within p (apart r p at needs)))
    (λ t. refl)

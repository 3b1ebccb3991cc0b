-- What an admitted store does to the endpoint: the position moves by one place, around, or not at all, a TRB is counted, the link goes out with the old
-- cycle, a deferred TD's first TRB first with the opposite and last with the right one, and after the last store nothing is under way. Assumes nothing.
use Rattle.std.specs.Prelude.{Ok}
use Prim.Native.Nat.{ℕ, ◌+◌, ◌<◌}
use mathlib.Core.Bool.{Bool, true, false, not, ◌&&◌}
use mathlib.Core.List.{List}
use mathlib.Core.Logic.{⊎_elim}
use mathlib.Core.Path.{◌≡◌, refl, sym, ap, subst, ◌∙◌}
use native.Mathlib.Omega.{arith}
use lib.Dec.{eqb}
use lib.ListN.{length}
use Rattle.base.specs.First.{pick}
use Rattle.base.proofs.Decide.{Decides, by_eqb, by_true, both, if_so, if_not}
use Rattle.trb.specs.Layouts.{words_of, words_at}
use Rattle.ring.specs.Ring.{onward, around}
use Rattle.records.specs.declared.Record.{Record}
use Rattle.ring.specs.declared.Position.{Position}
use Rattle.dock.specs.declared.Endpoint.{Endpoint}
use Rattle.dock.specs.declared.Stored.TheVariants.{Slot, Last}
use Rattle.dock.specs.RowOne.{Next, the_link, the_trb, the_first, none, next_of, is_none}
use Rattle.dock.specs.State.{idle, with_store}
use Rattle.dock.specs.NextStore.{store_no, store, first_cycle, stepped, slot_stored, settled, stored_answer}
use Rattle.dock.specs.Trbs.{trb_count, trb_of, deferred, first_trb, link_for}
use Rattle.dock.proofs.RefusalLaws.{store_acts}
use Rattle.dock.proofs.StoreNextLaws.{because, is_next}
use Rattle.dock.proofs.StoreLaws.{flying_record, next_store, slot_changed, stepped_next, last_store, trb_stored, cycle_stored, storing, ring_same}

-- ---- the endpoint

-- What a store keeps of the endpoint: all but the position, the next frame and the submission under way.
pub record Kept (e after : Endpoint) : Type 0 where
  pub shape : after.shape ≡ e.shape
  pub who : after.who ≡ e.who
  pub account : after.account ≡ e.account
  pub flags : after.flags ≡ e.flags
  pub packet : after.periodic.packet ≡ e.periodic.packet
  pub burst : after.periodic.burst ≡ e.periodic.burst
  pub interval : after.periodic.interval ≡ e.periodic.interval

pub step_keeps : (n : Next) (e : Endpoint) (v : Record) (packets : List ℕ) → Kept e (stepped n e v packets)
unfolding stepped
step_keeps the_link e v packets = record { shape = refl; who = refl; account = refl; flags = refl; packet = refl; burst = refl; interval = refl }
step_keeps the_trb e v packets = record { shape = refl; who = refl; account = refl; flags = refl; packet = refl; burst = refl; interval = refl }
step_keeps the_first e v packets = record { shape = refl; who = refl; account = refl; flags = refl; packet = refl; burst = refl; interval = refl }
step_keeps none e v packets = record { shape = refl; who = refl; account = refl; flags = refl; packet = refl; burst = refl; interval = refl }

-- An endpoint whose submission is over keeps all but that.
abbrev pub rested : Bool → Endpoint → Endpoint
rested b e = pick b (with_store e e.at e.periodic.frame idle) e

rest_keeps : (b : Bool) (e after : Endpoint) → Kept e after → Kept e (rested b after)
rest_keeps true e after k = record {
  shape = k.shape;
  who = k.who;
  account = k.account;
  flags = k.flags;
  packet = k.packet;
  burst = k.burst;
  interval = k.interval;
}
rest_keeps false e after k = k

rest_at : (b : Bool) (e : Endpoint) → (rested b e).at ≡ e.at
rest_at true e = refl
rest_at false e = refl

-- The position afterwards: around by the link, one place on by a TRB, the same by the first TRB again.
abbrev pub position_stored : Next → Position → Position
position_stored the_link p = around p
position_stored the_trb p = onward p
position_stored the_first p = p
position_stored none p = p

step_at_lem : (n : Next) (e : Endpoint) (v : Record) (packets : List ℕ) → (stepped n e v packets).at ≡ position_stored n e.at
unfolding stepped
step_at_lem the_link e v packets = refl
step_at_lem the_trb e v packets = refl
step_at_lem the_first e v packets = refl
step_at_lem none e v packets = refl

-- How many TRBs are stored afterwards: one more by a TRB, as many by the link, and the first TRB again counts as one more than there
-- are.
abbrev pub count_stored : Next → ℕ → ℕ
count_stored the_link k = k
count_stored the_trb k = k + 1
count_stored the_first k = k + 1
count_stored none k = k

-- A step of the submission counts its TRB and keeps its record, its first place and its cycle.
pub record Worked (n : Next) (e after : Endpoint) : Type 0 where
  pub stored : after.work.stored ≡ count_stored n e.work.stored
  pub number : after.work.number ≡ e.work.number
  pub place : after.work.place ≡ e.work.place
  pub cycle : after.work.cycle ≡ e.work.cycle

pub step_works : (n : Next) (e : Endpoint) (v : Record) (packets : List ℕ) → Worked n e (stepped n e v packets)
unfolding stepped
step_works the_link e v packets = record { stored = refl; number = refl; place = refl; cycle = refl }
step_works the_trb e v packets = record { stored = refl; number = refl; place = refl; cycle = refl }
step_works the_first e v packets = record { stored = refl; number = refl; place = refl; cycle = refl }
step_works none e v packets = record { stored = refl; number = refl; place = refl; cycle = refl }

module _ (e : Endpoint) (ring finished records packets : List ℕ) (passed : store_no e (length ring) (length finished) records (length packets) ≡ 0) where
  endpoint_after : (store e ring finished records packets).0.endpoint ≡ rested (last_store e records packets) (stepped_next e records packets)
  unfolding settled
  endpoint_after = ap (λ s. s.0.endpoint) (store_acts e ring finished records packets passed)

  pub store_keeps : Kept e (store e ring finished records packets).0.endpoint
  store_keeps =
      subst (λ (x : Endpoint). Kept e x) (sym endpoint_after)
      (rest_keeps (last_store e records packets) e (stepped_next e records packets) (step_keeps (next_store e records) e (flying_record e records) packets))

  pub store_moves : (store e ring finished records packets).0.endpoint.at ≡ position_stored (next_store e records) e.at
  store_moves =
      ap (λ (x : Endpoint). x.at) endpoint_after
      ∙ rest_at (last_store e records packets) (stepped_next e records packets)
      ∙ step_at_lem (next_store e records) e (flying_record e records) packets

  -- A store that is not the last answers its slot, and the submission goes on;
  pub store_goes_on : last_store e records packets ≡ false
      → (store e ring finished records packets).0 ≡ record { answer = Ok (Slot (slot_changed e records)); endpoint = stepped_next e records packets }
  unfolding settled stored_answer
  store_goes_on more = ap (λ s. s.0) (store_acts e ring finished records packets passed) ∙ rw more

  -- the last answers its slot, the id and the doorbell word, and nothing is under way.
  pub store_ends : last_store e records packets ≡ true
      → (store e ring finished records packets).0
      ≡ record {
        answer = Ok (Last (slot_changed e records) (flying_record e records).id e.who.dci);
        endpoint = rested true (stepped_next e records packets);
      }
  unfolding settled stored_answer
  store_ends last = ap (λ s. s.0) (store_acts e ring finished records packets passed) ∙ rw last

-- ---- the cycles

module _ (e : Endpoint) (v : Record) where
  by_first : Decides (deferred v && eqb e.work.stored 0) ((deferred v ≡ true) × (e.work.stored ≡ 0))
  by_first = both (by_true (deferred v)) (by_eqb e.work.stored 0)

  -- A deferred TD's first store, its first TRB, has the opposite cycle,
  pub first_hidden : deferred v ≡ true → e.work.stored ≡ 0 → first_cycle e v ≡ not e.at.cycle
  first_hidden late stored = rw (if_so by_first (late, stored))

  -- and every other TRB the current one.
  pub trb_current : ((deferred v ≡ true) × (e.work.stored ≡ 0) → ⊥) → first_cycle e v ≡ e.at.cycle
  trb_current other = rw (if_not by_first other)

  -- After the first TRB's second store nothing is left.
  pub first_is_last : (packets : List ℕ) → next_of e v ≡ the_first → next_of (stepped the_first e v packets) v ≡ none
  unfolding stepped
  first_is_last packets q =
      let w = because e v the_first q in
      is_next (stepped the_first e v packets) v none (w.0, omega arith, λ k. omega arith)

module _ (e : Endpoint) (ring finished records packets : List ℕ) (passed : store_no e (length ring) (length finished) records (length packets) ≡ 0) where
  -- The link: at L-1, with the cycle before it; then place 0 and the cycle toggled.
  pub link_stored : next_store e records ≡ the_link
      → (e.at.place + 1 ≡ e.shape.slots)
      × (words_at (store e ring finished records packets).1 e.at.place ≡ words_of (link_for e (flying_record e records)) e.at.cycle)
      × ((store e ring finished records packets).0.endpoint.at ≡ record { place = 0; cycle = not e.at.cycle })
  unfolding slot_stored
  link_stored q = (
    because e (flying_record e records) the_link q,
    subst
        (λ (n : Next).
        words_at (store e ring finished records packets).1 (slot_stored n e)
        ≡ words_of (trb_stored n e (flying_record e records) packets) (cycle_stored n e (flying_record e records)))
        q (ring_same e ring finished records packets passed),
    store_moves e ring finished records packets passed ∙ ap (λ (n : Next). position_stored n e.at) q,
  )

  -- A TRB: at a place that is not L-1, with the cycle of a first store; then one place on.
  pub trb_stored_lem : next_store e records ≡ the_trb
      → (e.at.place + 1 < e.shape.slots)
      × (e.work.stored < trb_count (flying_record e records))
      × (words_at (store e ring finished records packets).1 e.at.place
      ≡ words_of (trb_of e (flying_record e records) packets e.work.stored) (first_cycle e (flying_record e records)))
      × ((store e ring finished records packets).0.endpoint.at ≡ onward e.at)
  unfolding slot_stored
  trb_stored_lem q =
      let w = because e (flying_record e records) the_trb q in (
        ⊎_elim (λ (h : e.at.place + 1 < e.shape.slots). h) (λ h. absurd (w.0 h.0.0)) (storing e ring finished records packets passed).fits.place,
        w.1,
        subst
            (λ (n : Next).
            words_at (store e ring finished records packets).1 (slot_stored n e)
            ≡ words_of (trb_stored n e (flying_record e records) packets) (cycle_stored n e (flying_record e records)))
            q (ring_same e ring finished records packets passed),
        store_moves e ring finished records packets passed ∙ ap (λ (n : Next). position_stored n e.at) q,
      )

  -- The first TRB again: of a deferred TD all of whose TRBs are stored, not at L-1, with the cycle kept for it; then nothing is under way.
  pub first_stored : next_store e records ≡ the_first
      → (e.at.place + 1 ≡ e.shape.slots → ⊥)
      × (deferred (flying_record e records) ≡ true)
      × (e.work.stored ≡ trb_count (flying_record e records))
      × (words_at (store e ring finished records packets).1 e.work.place ≡ words_of (first_trb e (flying_record e records) packets) e.work.cycle)
      × ((store e ring finished records packets).0.endpoint.at ≡ e.at)
      × ((store e ring finished records packets).0.endpoint.work ≡ idle)
  unfolding slot_stored
  first_stored q =
      let v = flying_record e records in
      let w = because e v the_first q in
      let last : last_store e records packets ≡ true =
      ap (λ (n : Next). is_none (next_of (stepped n e v packets) v)) q ∙ ap is_none (first_is_last e v packets q) in (
        w.0,
        w.1,
        w.2,
        subst
            (λ (n : Next).
            words_at (store e ring finished records packets).1 (slot_stored n e) ≡ words_of (trb_stored n e v packets) (cycle_stored n e v))
            q (ring_same e ring finished records packets passed),
        store_moves e ring finished records packets passed ∙ ap (λ (n : Next). position_stored n e.at) q,
        ap (λ s. s.endpoint.work) (store_ends e ring finished records packets passed last),
      )

-- A store that is admitted changes one slot of the ring, wholly, and at most one place of the finished table: a TRB's store clears the place of its
-- slot, the link's and the first TRB's second clear nothing. Assumes nothing.
use Rattle.std.specs.Prelude.{None}
use Prim.Native.Nat.{ℕ, ◌+◌, ◌*◌, ◌<◌, ◌≤◌}
use mathlib.Core.Bool.{Bool, true, false, false≢true}
use mathlib.Core.List.{List}
use mathlib.Core.Logic.{⊎_elim}
use mathlib.Core.Path.{◌≡◌, refl, sym, ap, ◌∙◌}
use native.Mathlib.Omega.{arith}
use lib.ListN.{length}
use Rattle.trb.specs.Layouts.{words_of, words_at}
use Rattle.trb.specs.declared.Trb.{Trb}
use Rattle.trb.proofs.BlockLaws.{words_length}
use Rattle.ring.specs.Ring.{store_at}
use Rattle.ring.proofs.RuleLaws.{store_length, store_same, store_other}
use Rattle.finished.specs.Finished.{finished_at}
use Rattle.records.specs.Records.{record_at}
use Rattle.records.specs.declared.Record.{Record}
use Rattle.finished.proofs.FinishedLaws.{cleared, others_kept}
use Rattle.dock.specs.declared.Endpoint.{Endpoint}
use Rattle.dock.specs.RowOne.{Next, the_link, the_trb, the_first, none, next_of, is_none}
use Rattle.dock.specs.NextStore.{store_no, store, first_cycle, stepped, slot_stored, ring_stored, finished_stored}
use Rattle.dock.specs.Trbs.{trb_of, deferred, first_trb, link_for}
use Rattle.dock.proofs.RefusalLaws.{store_acts}
use Rattle.dock.proofs.StoreNextLaws.{because, Storing, store_admitted}
use Rattle.dock.proofs.RefusalTestLaws.{Fits}

-- ---- one slot

-- The TRB that a store stores, and its cycle: the link with the current cycle, which is the old one after it; a TRB; the first TRB again with the cycle kept
-- for it.
abbrev pub trb_stored : Next → Endpoint → Record → List ℕ → Trb
trb_stored the_link e v packets = link_for e v
trb_stored the_trb e v packets = trb_of e v packets e.work.stored
trb_stored the_first e v packets = first_trb e v packets
trb_stored none e v packets = first_trb e v packets

abbrev pub cycle_stored : Next → Endpoint → Record → Bool
cycle_stored the_link e v = e.at.cycle
cycle_stored the_trb e v = first_cycle e v
cycle_stored the_first e v = e.work.cycle
cycle_stored none e v = e.at.cycle

-- Any store but none is one store of that TRB.
ring_is : (n : Next) (e : Endpoint) (v : Record) (packets ring : List ℕ) → is_none n ≡ false
    → ring_stored n e v packets ring ≡ store_at ring (slot_stored n e) (trb_stored n e v packets) (cycle_stored n e v)
unfolding ring_stored slot_stored
ring_is the_link e v packets ring some = refl
ring_is the_trb e v packets ring some = refl
ring_is the_first e v packets ring some = refl
ring_is none e v packets ring some = absurd (false≢true (sym some))

-- Its slot is one of the L.
slot_below : (n : Next) (e : Endpoint) (v : Record) → Fits e → (deferred v ≡ true → e.work.place + 1 < e.shape.slots) → next_of e v ≡ n → is_none n ≡ false
    → slot_stored n e < e.shape.slots
unfolding slot_stored
slot_below the_link e v fit first next some = ⊎_elim (λ h. omega arith) (λ h. omega arith) fit.place
slot_below the_trb e v fit first next some = ⊎_elim (λ h. omega arith) (λ h. omega arith) fit.place
slot_below the_first e v fit first next some = omega (arith, first (because e v the_first next).1)
slot_below none e v fit first next some = absurd (false≢true (sym some))

-- The record of the submission under way, its next store, and the slot of that.
abbrev pub flying_record : Endpoint → List ℕ → Record
flying_record e records = record_at records e.work.number

abbrev pub next_store : Endpoint → List ℕ → Next
next_store e records = next_of e (flying_record e records)

abbrev pub slot_changed : Endpoint → List ℕ → ℕ
slot_changed e records = slot_stored (next_store e records) e

abbrev pub trb_next : Endpoint → List ℕ → List ℕ → Trb
trb_next e records packets = trb_stored (next_store e records) e (flying_record e records) packets

abbrev pub cycle_next : Endpoint → List ℕ → Bool
cycle_next e records = cycle_stored (next_store e records) e (flying_record e records)

abbrev pub stepped_next : Endpoint → List ℕ → List ℕ → Endpoint
stepped_next e records packets = stepped (next_store e records) e (flying_record e records) packets

-- No store is left behind this one.
abbrev pub last_store : Endpoint → List ℕ → List ℕ → Bool
last_store e records packets = is_none (next_of (stepped_next e records packets) (flying_record e records))

module _ (e : Endpoint) (ring finished records packets : List ℕ) (passed : store_no e (length ring) (length finished) records (length packets) ≡ 0) where
  pub storing : Storing e ring finished records packets
  storing = store_admitted e ring finished records packets passed

  some : is_none (next_store e records) ≡ false
  some = storing.course.more

  pub slot_is_one : slot_changed e records < e.shape.slots
  slot_is_one = slot_below (next_store e records) e (flying_record e records) storing.fits storing.course.first refl some

  room : 4 * slot_changed e records + 4 ≤ length ring
  room = let s = storing.ring_size_lem in omega (arith, slot_is_one)

  ring_after : (store e ring finished records packets).1 ≡ store_at ring (slot_changed e records) (trb_next e records packets) (cycle_next e records)
  ring_after = ap (λ s. s.1) (store_acts e ring finished records packets passed) ∙ ring_is (next_store e records) e (flying_record e records) packets ring some

  -- The ring keeps its length,
  pub ring_length : length (store e ring finished records packets).1 ≡ length ring
  ring_length = ap length ring_after ∙ store_length ring (slot_changed e records) (trb_next e records packets) (cycle_next e records) room

  -- the slot has the TRB's words with its cycle,
  pub ring_same : words_at (store e ring finished records packets).1 (slot_changed e records) ≡ words_of (trb_next e records packets) (cycle_next e records)
  ring_same =
      ap (λ r. words_at r (slot_changed e records)) ring_after
      ∙ store_same ring (slot_changed e records) (trb_next e records packets) (cycle_next e records) room

  -- and every other slot is as it was.
  pub ring_other : (i : ℕ) → (i ≡ slot_changed e records → ⊥) → words_at (store e ring finished records packets).1 i ≡ words_at ring i
  ring_other i differs =
      ap (λ r. words_at r i) ring_after
      ∙ store_other ring (slot_changed e records) (trb_next e records packets) (cycle_next e records) room i differs

-- ---- at most one place of the finished table

kept_length : (n : Next) (e : Endpoint) (l : List ℕ) → 4 * slot_stored n e + 4 ≤ length l → length (finished_stored n e l) ≡ length l
unfolding slot_stored finished_stored
kept_length the_link e l h = refl
kept_length the_trb e l h = words_length l e.at.place (record { w0 = 0; w1 = 0; w2 = 0; w3 = 0 }) h
kept_length the_first e l h = refl
kept_length none e l h = refl

kept_other : (n : Next) (e : Endpoint) (l : List ℕ) → 4 * slot_stored n e + 4 ≤ length l → (place : ℕ) → (place ≡ slot_stored n e → ⊥)
    → finished_at (finished_stored n e l) place ≡ finished_at l place
unfolding slot_stored finished_stored
kept_other the_link e l h place differs = refl
kept_other the_trb e l h place differs = others_kept l e.at.place h (record { w0 = 0; w1 = 0; w2 = 0; w3 = 0 }) place differs
kept_other the_first e l h place differs = refl
kept_other none e l h place differs = refl

trb_clears : (n : Next) (e : Endpoint) (l : List ℕ) → 4 * slot_stored n e + 4 ≤ length l → n ≡ the_trb
    → finished_at (finished_stored n e l) (slot_stored n e) ≡ None
unfolding slot_stored finished_stored
trb_clears the_link e l h q = let z : ◌≡◌ {A = ℕ} 0 1 = cc in absurd (omega arith)
trb_clears the_trb e l h q = cleared l e.at.place h
trb_clears the_first e l h q = let z : ◌≡◌ {A = ℕ} 0 1 = cc in absurd (omega arith)
trb_clears none e l h q = let z : ◌≡◌ {A = ℕ} 0 1 = cc in absurd (omega arith)

module _ (e : Endpoint) (ring finished records packets : List ℕ) (passed : store_no e (length ring) (length finished) records (length packets) ≡ 0) where
  finished_after : (store e ring finished records packets).2 ≡ finished_stored (next_store e records) e finished
  finished_after = ap (λ s. s.2) (store_acts e ring finished records packets passed)

  place_room : 4 * slot_changed e records + 4 ≤ length finished
  place_room =
      let s = (storing e ring finished records packets passed).finished_size in
      omega (arith, slot_is_one e ring finished records packets passed)

  -- The finished table keeps its length,
  pub finished_length : length (store e ring finished records packets).2 ≡ length finished
  finished_length = ap length finished_after ∙ kept_length (next_store e records) e finished place_room

  -- a TRB's store clears the place of its slot,
  pub finished_cleared : next_store e records ≡ the_trb → finished_at (store e ring finished records packets).2 (slot_changed e records) ≡ None
  finished_cleared q =
      ap (λ l. finished_at l (slot_changed e records)) finished_after ∙ trb_clears (next_store e records) e finished place_room q

  -- every other place says what it said,
  pub finished_other : (place : ℕ) → (place ≡ slot_changed e records → ⊥)
      → finished_at (store e ring finished records packets).2 place ≡ finished_at finished place
  finished_other place differs =
      ap (λ l. finished_at l place) finished_after ∙ kept_other (next_store e records) e finished place_room place differs

  -- and the link's store and the first TRB's second store clear nothing.
  pub link_clears_nothing : next_store e records ≡ the_link → (store e ring finished records packets).2 ≡ finished
  unfolding finished_stored
  link_clears_nothing q = finished_after ∙ ap (λ (n : Next). finished_stored n e finished) q

  pub first_clears_nothing : next_store e records ≡ the_first → (store e ring finished records packets).2 ≡ finished
  unfolding finished_stored
  first_clears_nothing q = finished_after ∙ ap (λ (n : Next). finished_stored n e finished) q

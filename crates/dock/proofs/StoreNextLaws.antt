-- Which store of a submission is next, and what a store that is admitted may count on: its number is 0 exactly where the sizes are right, the endpoint
-- fits, and a submission is under way whose record is held, in flight and has a store left. Assumes nothing.
use Prim.Native.Nat.{ℕ, ◌+◌, ◌<◌, ◌≤◌}
use mathlib.Core.Bool.{Bool, true, false, ◌&&◌}
use mathlib.Core.List.{List}
use mathlib.Core.Path.{◌≡◌, refl, subst}
use native.Mathlib.Omega.{arith}
use borrow.Author.Tests.{not-false, eq-eqb, ne_eqb, lt-ltb, le-ltb, eqb-true, eqb-false, ltb-true, ltb-false}
use lib.Dec.{eqb, ltb}
use lib.ListN.{length}
use Rattle.base.specs.First.{pick}
use Rattle.base.proofs.Decide.{Decides, by_eqb, by_true, both, if_so, if_not}
use Rattle.records.specs.declared.Record.{Record}
use Rattle.dock.specs.declared.Endpoint.{Endpoint}
use Rattle.dock.specs.RowOne.{fits_with, Next, the_link, the_trb, the_first, none, next_of}
use Rattle.sizes.specs.Sizes.{ring_size, records_size, packets_size}
use Rattle.dock.specs.NextStore.{store_tests, store_no}
use Rattle.dock.specs.Trbs.{trb_count, deferred}
use Rattle.dock.proofs.RefusalLaws.{store_exact}
use Rattle.dock.proofs.RefusalTestLaws.{Fits, FitsWith, OnCourse, by_fits_with, on_course, by_strays}

-- ---- which store is next

Reason : Bool → Bool → Bool → Next → Type 0
Reason a b c the_link = a ≡ true
Reason a b c the_trb = (a ≡ false) × (b ≡ true)
Reason a b c the_first = (a ≡ false) × (b ≡ false) × (c ≡ true)
Reason a b c none = (a ≡ false) × (b ≡ false) × (c ≡ false)

reason : (a b c : Bool) → Reason a b c (pick a the_link (pick b the_trb (pick c the_first none)))
unfolding Reason
reason true b c = refl
reason false true c = (refl, refl)
reason false false true = (refl, refl, refl)
reason false false false = (refl, refl, refl)

-- What it means that a store is the next: the link at place L-1; else a TRB while one is left; else for a deferred TD, all its TRBs stored, the
-- first TRB again.
abbrev pub Why : Endpoint → Record → Next → Type 0
Why e v the_link = e.at.place + 1 ≡ e.shape.slots
Why e v the_trb = (e.at.place + 1 ≡ e.shape.slots → ⊥) × (e.work.stored < trb_count v)
Why e v the_first = (e.at.place + 1 ≡ e.shape.slots → ⊥) × (deferred v ≡ true) × (e.work.stored ≡ trb_count v)
Why e v none = (e.at.place + 1 ≡ e.shape.slots → ⊥) × (trb_count v ≤ e.work.stored) × ((deferred v ≡ true) × (e.work.stored ≡ trb_count v) → ⊥)

module _ (e : Endpoint) (v : Record) where
  by_again : Decides (deferred v && eqb e.work.stored (trb_count v)) ((deferred v ≡ true) × (e.work.stored ≡ trb_count v))
  by_again = both (by_true (deferred v)) (by_eqb e.work.stored (trb_count v))

  worded : (n : Next)
      → Reason (eqb (e.at.place + 1) e.shape.slots) (ltb e.work.stored (trb_count v)) (deferred v && eqb e.work.stored (trb_count v)) n
      → Why e v n
  unfolding Reason
  worded the_link r = eqb-true _ _ r
  worded the_trb r = (eqb-false _ _ r.0, ltb-true _ _ r.1)
  worded the_first r = let s = by_again.so r.2 in (eqb-false _ _ r.0, s.0, s.1)
  worded none r = (eqb-false _ _ r.0, ltb-false _ _ r.1, by_again.not_so r.2)

  pub why : Why e v (next_of e v)
  unfolding next_of
  why =
      worded (next_of e v)
      (reason (eqb (e.at.place + 1) e.shape.slots) (ltb e.work.stored (trb_count v)) (deferred v && eqb e.work.stored (trb_count v)))

  pub because : (n : Next) → next_of e v ≡ n → Why e v n
  because n q = subst (λ (m : Next). Why e v m) q why

  -- What is next is decided by that.
  pub is_next : (n : Next) → Why e v n → next_of e v ≡ n
  unfolding next_of
  is_next the_link w = rw (eq-eqb _ _ w)
  is_next the_trb w = rw (ne_eqb _ _ w.0, lt-ltb _ _ w.1)
  is_next the_first w =
      let past : trb_count v ≤ e.work.stored = omega arith in
      rw (ne_eqb _ _ w.0, le-ltb _ _ past, if_so by_again (w.1, w.2))
  is_next none w = rw (ne_eqb _ _ w.0, le-ltb _ _ w.1, if_not by_again w.2)

-- ---- what an admitted store may count on

module _ (e : Endpoint) (ring finished records packets : List ℕ) where
  pub record Storing : Type 0 where
    pub fits : Fits e
    pub records_size_lem : length records ≡ records_size
    pub ring_size_lem : length ring ≡ ring_size e.shape.slots
    pub finished_size : length finished ≡ ring_size e.shape.slots
    pub packets_size_lem : length packets ≡ packets_size
    pub busy : e.work.busy ≡ true
    pub course : OnCourse e records

  by_sizes : Decides
      (fits_with e records && eqb (length ring) (ring_size e.shape.slots) && eqb (length finished) (ring_size e.shape.slots) && eqb (length packets) packets_size)
      (((FitsWith e records × (length ring ≡ ring_size e.shape.slots)) × (length finished ≡ ring_size e.shape.slots)) × (length packets ≡ packets_size))
  by_sizes =
      both
      (both (both (by_fits_with e records) (by_eqb (length ring) (ring_size e.shape.slots))) (by_eqb (length finished) (ring_size e.shape.slots)))
      (by_eqb (length packets) packets_size)

  pub store_admitted : store_no e (length ring) (length finished) records (length packets) ≡ 0 → Storing
  unfolding store_tests
  store_admitted passed =
      let tests = (store_exact e ring finished records packets).passed passed in
      let k = by_sizes.so (not-false _ (tests 0 (omega arith))) in
      let busy : e.work.busy ≡ true = not-false _ (tests 1 (omega arith)) in
      record {
        fits = k.0.0.0.endpoint;
        records_size_lem = k.0.0.0.size;
        ring_size_lem = k.0.0.1;
        finished_size = k.0.1;
        packets_size_lem = k.1;
        busy = busy;
        course = on_course e records k.0.0.0.course busy;
      }

  pub store_admits : Storing → store_no e (length ring) (length finished) records (length packets) ≡ 0
  unfolding store_no store_tests
  store_admits s =
      let fit : FitsWith e records =
      record { endpoint = s.fits; size = s.records_size_lem; course = if_not (by_strays e records) (λ k. k.1 s.course) } in
      let sized = if_so by_sizes (((fit, s.ring_size_lem), s.finished_size), s.packets_size_lem) in
      rw (sized, s.busy)

-- The packets that a reclaim tells of which is done, in any state, forged records or not: a request of another kind than isochronous has none, and an
-- isochronous one as many as it has TRBs, at most 64. Assumes nothing.
use Rattle.std.specs.Prelude.{Option, Some, Ok, Err}
use Prim.Native.Nat.{ℕ, ◌≤◌}
use mathlib.Core.Bool.{true, false}
use mathlib.Core.List.{List}
use mathlib.Core.Logic.{⊎_elim}
use mathlib.Core.Path.{◌≡◌, refl, sym, ap, subst, ◌∙◌}
use native.Mathlib.Omega.{arith}
use borrow.Author.Tests.{eqb-true}
use lib.Dec.{eqb}
use lib.ListN.{length}
use Rattle.base.proofs.Chosen.{quiet}
use Rattle.base.proofs.Compare.{same_or_not}
use Rattle.base.proofs.Decide.{if_so}
use Rattle.sizes.specs.Sizes.{packet_count}
use Rattle.records.specs.Kinds.{isoch}
use Rattle.records.proofs.KindLaws.{eq_kind, ne_kind}
use Rattle.records.specs.States.{state_is, in_flight, stopped}
use Rattle.records.proofs.StateLaws.{state_true}
use Rattle.records.specs.Records.{record_at}
use Rattle.records.specs.declared.Record.{Record}
use Rattle.dock.specs.declared.Completion.{Completion}
use Rattle.dock.specs.declared.Endpoint.{Endpoint}
use Rattle.dock.specs.declared.After.{After}
use Rattle.dock.specs.declared.Reclaimed.{Reclaimed}
use Rattle.dock.specs.declared.Reclaimed.TheVariants as answer
use Rattle.dock.specs.declared.Refusal.{Refusal}
use Rattle.dock.specs.Reclaim.{mismatched, packets_told, bad_record, reclaim_tests, reclaim_no, reclaim_found, reclaim}
use Rattle.dock.specs.Run.{State}
use Rattle.dock.specs.Tests.{Ending, going, ended_by, ending_of}
use Rattle.dock.proofs.AnsweredLaws.{ended, flying_ends}
use Rattle.dock.proofs.ReachedSoundLaws.{few_packets}
use Rattle.dock.proofs.ReclaimAnswerLaws.{done_reports, never_done, differs_not_done}
use Rattle.dock.proofs.RefusalRequestLaws.{Named, named_found, by_mismatched}
use Rattle.dock.proofs.RetireLaws.{picked}

module _ (s : State) (c : Completion) where
  abbrev e : Endpoint
  e = s.endpoint

  -- The completion tells of the packets of this record, which is in flight and whose packets do not differ.
  record Tells (v : Record) : Type 0 where
    packets : c.packets ≡ packets_told v
    flying : v.state ≡ in_flight
    agrees : mismatched v ≡ true → ⊥

  ended_tells : (v : Record) (r : ℕ) → v.state ≡ in_flight → (x : Ending) → (ended e v r x).answer ≡ Ok (answer.Done c) → Tells v
  ended_tells v r flies going d = absurd (never_done e v r c d)
  ended_tells v r flies (ended_by code fails size) d = record {
    packets = ap (λ (k : Completion). k.packets) (done_reports e v r code fails size c d);
    flying = flies;
    agrees = λ m. differs_not_done e v r code fails size c m d;
  }

  abbrev Told : (After Reclaimed × List ℕ × List ℕ) → Record → Type 0
  Told t v = t.0.answer ≡ Ok (answer.Done c) → Tells v

  found_tells : (r : ℕ) → Told (reclaim_found (Some r) e s.finished s.records s.packets) (record_at s.records r)
  found_tells r =
      let v = record_at s.records r in
      picked (λ t. Told t v) (state_is v.state stopped) _ _ (λ t d. absurd (let z : ◌≡◌ {A = ℕ} 0 1 = cc in omega arith))
      (λ t. picked (λ t. Told t v) (state_is v.state in_flight) _ _
      (λ u d. ended_tells v r (state_true v.state in_flight u) (ending_of s v r) (sym (ap (λ (x : After Reclaimed). x.answer) (flying_ends s v r)) ∙ d))
      (λ u d. absurd (never_done e v r c d)))

  refused_not_done : {why : Refusal} → Err why ≡ Ok (answer.Done c) → ⊥
  refused_not_done d = let z : ◌≡◌ {A = ℕ} 0 1 = cc in omega arith

  module _ (id r : ℕ) (named : Named s.records e.account.occupancy id r) where
    abbrev v : Record
    v = record_at s.records r

    abbrev passes : Type 0
    passes = reclaim_no e (length s.finished) s.records (length s.packets) id ≡ 0

    reclaim_tells : (reclaim e s.finished s.records s.packets id).0.answer ≡ Ok (answer.Done c) → Tells v × passes
    unfolding reclaim
    reclaim_tells =
        picked (λ (t : After Reclaimed × List ℕ × List ℕ). t.0.answer ≡ Ok (answer.Done c) → Tells v × passes)
        (eqb (reclaim_no e (length s.finished) s.records (length s.packets) id) 0) _ _
        (λ z d. (
          subst (λ (f : Option ℕ). Told (reclaim_found f e s.finished s.records s.packets) v) (sym (named_found _ _ id r named)) (found_tells r) d,
          eqb-true _ _ z,
        ))
        (λ z d. absurd (refused_not_done d))

    -- A bulk, interrupt or control request, whatever its record says,
    pub done_no_packets : (v.kind ≡ isoch → ⊥) → (reclaim e s.finished s.records s.packets id).0.answer ≡ Ok (answer.Done c) → c.packets ≡ 0
    done_no_packets other d = (reclaim_tells d).0.packets ∙ rw (ne_kind v.kind isoch other)

    few : passes → v.state ≡ in_flight → v.kind ≡ isoch → v.count ≤ packet_count
    unfolding reclaim_no reclaim_tests
    few z flying =
        few_packets e v
        (subst (λ (f : Option ℕ). bad_record e s.records f ≡ false) (named_found _ _ id r named)
        (quiet (reclaim_tests e (length s.finished) s.records (length s.packets) id) 1 refl z (omega arith)))
        flying

    same_count : v.kind ≡ isoch → (mismatched v ≡ true → ⊥) → v.count ≡ v.given
    same_count kind agrees =
        ⊎_elim
        (λ (q : v.count ≡ v.given). q)
        (λ (q : v.count ≡ v.given → ⊥). absurd (agrees (if_so (by_mismatched v) (kind, q))))
        (same_or_not v.count v.given)

    -- and an isochronous one.
    pub done_iso_packets : v.kind ≡ isoch → (reclaim e s.finished s.records s.packets id).0.answer ≡ Ok (answer.Done c)
        → (c.packets ≡ v.count) × (c.packets ≤ packet_count)
    done_iso_packets kind d =
        let t = reclaim_tells d in
        let told : c.packets ≡ v.given = t.0.packets ∙ rw (eq_kind v.kind isoch kind) in
        let same = same_count kind t.0.agrees in
        let most = few t.1 t.0.flying kind in (omega arith, omega arith)

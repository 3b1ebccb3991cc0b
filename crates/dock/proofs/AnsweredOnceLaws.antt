-- In document 01's numbers, of every state that is reached: a request that is over (0, 7, 8, 9) is answered 10 when it is reclaimed again, and nothing changes;
-- after a retire the id of each request that was held is answered 6 to a cancel, and 7 and then 10 to reclaims. Assumes nothing.
use Rattle.std.specs.Prelude.{Err, Result, Ok}
use Prim.Native.Nat.{ℕ, ◌<◌}
use mathlib.Core.Bool.{Bool, true, false, ◌||◌, false≢true}
use mathlib.Core.List.{List, []}
use mathlib.Core.Logic.{⊎_elim}
use mathlib.Core.Path.{◌≡◌, refl, sym, ap, ◌∙◌}
use lib.Dec.{eqb}
use lib.ListN.{length}
use Rattle.base.specs.First.{pick}
use Rattle.base.proofs.Chosen.{test_at}
use Rattle.base.proofs.Compare.{same_or_not}
use Rattle.mask.specs.Occupancy.{held}
use Rattle.sizes.specs.Sizes.{record_count}
use Rattle.ids.specs.Free.{id_at}
use Rattle.dock.specs.declared.Reclaimed.{Reclaimed}
use Rattle.dock.specs.declared.Refusal.{Refusal}
use Rattle.dock.specs.declared.After.{After}
use Rattle.dock.specs.declared.Reclaimed.TheVariants as answer
use Rattle.dock.specs.Numbers.{Numbered, outcome_number, reclaimed_number}
use Rattle.dock.specs.Reclaim.{final, reclaim_tests, reclaim_no, reclaim}
use Rattle.dock.specs.Retire.{record_no, retire}
use Rattle.dock.specs.Run.{State, state_of, cancels, reclaims, retires, after, answered, Reached}
use Rattle.dock.proofs.AnsweredLaws.{answered_is}
use Rattle.dock.proofs.ReclaimLeaveLaws.{reclaim_admitted}
use Rattle.dock.proofs.ReclaimOnceLaws.{reclaimed_once, retired_cancelled, retired_once, retired_not_cancellable}
use Rattle.dock.proofs.RefusalAnswerLaws.{refused_leaves}
use Rattle.dock.proofs.RefusalLaws.{retire_acts}

-- The numbers with which a request is over.
abbrev pub is_over : ℕ → Bool
is_over n = eqb n 0 || eqb n 7 || eqb n 8 || eqb n 9

-- A refusal has none of them.
refused_open : (a b c : Bool) → let row : ℕ = pick a 1 (pick b 1 (pick c 12 0)) in (row ≡ 0 → ⊥) → is_over row ≡ true → ⊥
refused_open true b c d t = false≢true t
refused_open false true c d t = false≢true t
refused_open false false true d t = false≢true t
refused_open false false false d t = d refl

by_answer : (x : Result Reclaimed Refusal) → ((why : Refusal) → x ≡ Err why → ⊥) → is_over (reclaimed_number x).0 ≡ true → final x ≡ true
by_answer (Ok (answer.Done c)) never t = refl
by_answer (Ok answer.Cancelled) never t = refl
by_answer (Ok (answer.Failed code)) never t = refl
by_answer (Ok answer.Mismatch) never t = refl
by_answer (Ok answer.Nothing) never t = absurd (false≢true t)
by_answer (Err why) never t = absurd (never why refl)

module _ (s : State) (id : ℕ) where
  abbrev number : ℕ
  number = reclaim_no s.endpoint (length s.finished) s.records (length s.packets) id

  abbrev tried : List (Bool × ℕ)
  tried = reclaim_tests s.endpoint (length s.finished) s.records (length s.packets) id

  -- Such a number is a final answer's.
  over_final : is_over (answered s (reclaims id)).0 ≡ true → final (reclaim s.endpoint s.finished s.records s.packets id).0.answer ≡ true
  unfolding reclaim_no reclaim_tests
  over_final t =
      ⊎_elim
      (λ (z : number ≡ 0).
      by_answer (reclaim s.endpoint s.finished s.records s.packets id).0.answer
      (reclaim_admitted s.endpoint s.finished s.records s.packets id z) t)
      (λ (d : number ≡ 0 → ⊥).
      absurd (refused_open (test_at tried 0) (test_at tried 1) (test_at tried 2) d
      (sym (ap (λ (x : Numbered). is_over x.0) (refused_leaves s (reclaims id) d).0) ∙ t)))
      (same_or_not number 0)

-- The answer and the state of a reclaim, by what it gives back.
told_by : (t : State) (id : ℕ) {x : After Reclaimed × List ℕ × List ℕ} → reclaim t.endpoint t.finished t.records t.packets id ≡ x
    → (answered t (reclaims id) ≡ reclaimed_number x.0.answer) × (after t (reclaims id) ≡ state_of x.0.endpoint t.ring t.finished x.1 x.2)
told_by t id q = rw q (refl, refl)

pub once_told : {s : State} → Reached s → (id : ℕ) → is_over (answered s (reclaims id)).0 ≡ true
    → let t = after s (reclaims id) in (answered t (reclaims id) ≡ (10, [])) × (after t (reclaims id) ≡ t)
once_told {s} h id t = told_by (after s (reclaims id)) id (reclaimed_once h id (over_final s id t))

-- ---- after a retire that is done

module _ {s : State} (h : Reached s) (done : (answered s retires).0 ≡ 0) (r : ℕ) (l : r < record_count)
    (mine : held s.endpoint.account.occupancy r ≡ true) where
  abbrev t : State
  t = after s retires

  abbrev its : ℕ
  its = id_at s.records r

  passed : record_no s.endpoint s.records ≡ 0
  unfolding record_no
  passed = sym (ap (λ (x : Numbered). x.0) (answered_is s retires)) ∙ done

  is_done : (retire s.endpoint s.records).0.answer ≡ Ok _
  is_done = ap (λ x. x.0.answer) (retire_acts s.endpoint s.records passed)

  pub retired_told : (answered t (cancels its) ≡ (6, []))
      × (answered t (reclaims its) ≡ (7, []))
      × (let u = after t (reclaims its) in (answered u (reclaims its) ≡ (10, [])) × (after u (reclaims its) ≡ u))
  retired_told = (
    ap (λ x. outcome_number x.0) (retired_not_cancellable h is_done r l mine),
    ap (λ (x : After Reclaimed). reclaimed_number x.answer) (retired_cancelled h is_done r l mine),
    told_by (after t (reclaims its)) its (retired_once h is_done r l mine),
  )

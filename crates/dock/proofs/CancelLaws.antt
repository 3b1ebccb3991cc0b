-- A cancel that is done marks the request in flight that its id names, and changes nothing else; and a marked request is answered 10 while its events have
-- not ended it and then 7, whatever they tell. In any state, reached or not. Assumes nothing.
use Rattle.std.specs.Prelude.{Some}
use Prim.Native.Nat.{ℕ, ◌<◌}
use mathlib.Core.Bool.{true}
use mathlib.Core.List.{List, []}
use mathlib.Core.Logic.{◌⊎◌, inl, inr}
use mathlib.Core.Path.{◌≡◌, refl, sym, ap, ◌∙◌}
use native.Mathlib.Omega.{arith}
use borrow.Author.Tests.{not-false}
use lib.ListN.{length}
use Rattle.base.proofs.Chosen.{quiet}
use Rattle.mask.specs.declared.Occupancy.{Occupancy}
use Rattle.sizes.specs.Sizes.{record_words, records_size}
use Rattle.records.specs.States.{in_flight}
use Rattle.records.specs.Records.{cancelled_word, word_at, is_set, record_at}
use Rattle.records.specs.declared.Record.{Record}
use Rattle.records.proofs.RecordLaws.{word_set, word_kept, set_other}
use Rattle.dock.specs.Numbers.{Numbered}
use Rattle.dock.specs.Cancel.{cancel_tests, cancel_no, marked}
use Rattle.dock.specs.Reclaim.{complete_tests, reclaim_no}
use Rattle.dock.specs.Run.{State, cancels, reclaims, after, answered}
use Rattle.dock.specs.Tests.{Ending, going, ended_by, ending_of, came_by}
use Rattle.dock.proofs.AnsweredLaws.{said_of, answered_is, came_flying, reclaim_said}
use Rattle.dock.proofs.RefusalLaws.{cancel_acts}
use Rattle.dock.proofs.RefusalRequestLaws.{Named, named_found, flying_named}
use Rattle.dock.proofs.RefusalTestLaws.{by_fits_with}

-- ---- what a cancel marks

module _ (s : State) (id : ℕ) (done : (answered s (cancels id)).0 ≡ 0) where
  abbrev occupancy : Occupancy
  occupancy = s.endpoint.account.occupancy

  passed : cancel_no s.endpoint s.records id ≡ 0
  unfolding cancel_no
  passed = sym (ap (λ (x : Numbered). x.0) (answered_is s (cancels id))) ∙ done

  size : length s.records ≡ records_size
  unfolding cancel_no cancel_tests
  size = ((by_fits_with s.endpoint s.records).so (not-false _ (quiet (cancel_tests s.endpoint s.records id) 0 refl passed (omega arith)))).size

  -- The id names a record in flight,
  pub cancel_names : (r : ℕ) × Named s.records occupancy id r × ((record_at s.records r).state ≡ in_flight)
  unfolding cancel_no cancel_tests
  cancel_names = flying_named s.records occupancy id (quiet (cancel_tests s.endpoint s.records id) 2 refl passed (omega arith))

  module _ (r : ℕ) (named : Named s.records occupancy id r) where
    abbrev left : List ℕ
    left = (after s (cancels id)).records

    is_marked : left ≡ marked s.records (Some r)
    is_marked = ap (λ x. x.1) (cancel_acts s.endpoint s.records id passed) ∙ ap (marked s.records) (named_found s.records occupancy id r named)

    -- which is marked then;
    pub cancel_marks : (record_at left r).cancelled ≡ true
    unfolding record_at
    cancel_marks =
        ap (λ (l : List ℕ). is_set (word_at l r cancelled_word)) is_marked
        ∙ ap is_set (word_set s.records r cancelled_word _ (let w = named.within in omega (arith, size)))

    -- its other words stay,
    pub cancel_keeps : (k : ℕ) → k < record_words → (k ≡ cancelled_word → ⊥) → word_at left r k ≡ word_at s.records r k
    cancel_keeps k small other =
        ap (λ (l : List ℕ). word_at l r k) is_marked ∙ word_kept s.records r cancelled_word _ r k (λ e. other (omega arith))

    -- and so does every other record.
    pub cancel_others : (q : ℕ) → (q ≡ r → ⊥) → record_at left q ≡ record_at s.records q
    cancel_others q other =
        ap (λ (l : List ℕ). record_at l q) is_marked ∙ set_other s.records r cancelled_word _ q (omega arith) other

-- ---- how a marked request is answered: "completion of a cancelled request" is 7

module _ (s : State) (id r : ℕ) (named : Named s.records s.endpoint.account.occupancy id r) where
  abbrev v : Record
  v = record_at s.records r

  ended_seven : v.cancelled ≡ true → (x : Ending) → (said_of (came_by x v) ≡ (10, [])) ⊎ (said_of (came_by x v) ≡ (7, []))
  unfolding complete_tests
  ended_seven on going = inl refl
  ended_seven on (ended_by code fails size) = inr (rw on)

  pub cancelled_seven : v.state ≡ in_flight → v.cancelled ≡ true
      → reclaim_no s.endpoint (length s.finished) s.records (length s.packets) id ≡ 0
      → (answered s (reclaims id) ≡ (10, [])) ⊎ (answered s (reclaims id) ≡ (7, []))
  cancelled_seven flies on z =
      let is : answered s (reclaims id) ≡ said_of (came_by (ending_of s v r) v) = reclaim_said s id z ∙ ap said_of (came_flying s id r named flies) in
      rw is (ended_seven on (ending_of s v r))

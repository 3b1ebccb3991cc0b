-- In any state every call that is refused answers its number, with no value, and leaves the state as it was (`refused_leaves`); a making too.
-- Assumes nothing.
use Rattle.std.specs.Prelude.{⊤, Result, Option}
use Prim.Native.Nat.{ℕ}
use mathlib.Core.Bool.{Bool, true}
use mathlib.Core.List.{List, []}
use mathlib.Core.Path.{◌≡◌, refl, ap, ◌∙◌}
use lib.ListN.{length}
use Rattle.base.specs.First.{first}
use Rattle.dock.specs.declared.After.{After}
use Rattle.dock.specs.declared.Stored.{Stored}
use Rattle.dock.specs.declared.Submitted.{Submitted}
use Rattle.dock.specs.declared.Refusal.{Refusal}
use Rattle.dock.specs.declared.Reclaimed.{Reclaimed}
use Rattle.dock.specs.declared.ResetCommands.{ResetCommands}
use Rattle.dock.specs.declared.Identity.{Identity}
use Rattle.dock.specs.declared.Shape.{Shape}
use Rattle.dock.specs.Make.{make_tests, make_no, make}
use Rattle.dock.specs.Configure.{plain_tests, plain_no}
use Rattle.dock.specs.Start.{start_tests, start_no}
use Rattle.dock.specs.NextStore.{store_tests, store_no}
use Rattle.dock.specs.Submit.{submit_tests, submit_no}
use Rattle.dock.specs.HandOver.{hand_over_tests, hand_over_no}
use Rattle.dock.specs.Reclaim.{reclaim_tests, reclaim_no}
use Rattle.dock.specs.Cancel.{cancel_tests, cancel_no}
use Rattle.dock.specs.Retire.{record_tests, record_no}
use Rattle.dock.specs.Reset.{begin_tests, begin_no, end_tests, end_no}
use Rattle.dock.specs.Refusals.{number, refusal as refused}
use Rattle.dock.specs.Numbers.{Numbered, outcome_number, stored_number, submitted_number, taken_number, reclaimed_number, resetting_number, command_number, pointed_number}
use Rattle.dock.specs.Run.{State, state_of, Call, configures, starts, stores, submits, hands, reclaims, cancels, retires, begins, ends, stops, resumes, points, after, answered}
use Rattle.dock.proofs.NumberLaws.{rows, row_number}
use Rattle.dock.proofs.RefusalLaws.{make_refuses, configure_refuses, stop_refuses, resume_refuses, pointer_refuses, end_refuses, start_refuses, store_refuses, submit_refuses, hand_over_refuses, cancel_refuses, retire_refuses, begin_refuses, reclaim_refuses}

-- The number that a call is refused with in this state, 0 where it is not.
abbrev pub refusal : State → Call → ℕ
refusal s (configures packet burst interval) = plain_no s.endpoint
refusal s (starts request lengths) = start_no s.endpoint s.records (length s.packets) request lengths
refusal s stores = store_no s.endpoint (length s.ring) (length s.finished) s.records (length s.packets)
refusal s (submits request lengths) =
    submit_no s.endpoint (length s.ring) (length s.finished) s.records (length s.packets) request lengths
refusal s (hands event) = hand_over_no s.endpoint (length s.finished) event
refusal s (reclaims id) = reclaim_no s.endpoint (length s.finished) s.records (length s.packets) id
refusal s (cancels id) = cancel_no s.endpoint s.records id
refusal s retires = record_no s.endpoint s.records
refusal s begins = begin_no s.endpoint s.records
refusal s (ends worked) = end_no s.endpoint
refusal s stops = plain_no s.endpoint
refusal s resumes = plain_no s.endpoint
refusal s points = plain_no s.endpoint

-- A refusal's number is that of its test, and no value goes with it.
bare : (ts : List (Bool × ℕ)) → rows ts ≡ true → (first ts ≡ 0 → ⊥) → ◌≡◌ {A = Numbered} (number (refused (first ts)), []) (first ts, [])
bare ts all d = ap (λ (n : ℕ). (n, [])) (row_number ts all d)

-- The answer and the state that follow from what a call gives back, where that is the refusal.
given : {A : Type 0} (s : State) (n : ℕ) (number : A → Numbered) (left : A → State) {x y : A} → x ≡ y → number y ≡ (n, []) → left y ≡ s
    → (number x ≡ (n, [])) × (left x ≡ s)
given s n number left q a b = rw q (a, b)

pub refused_leaves : (s : State) (c : Call) → (refusal s c ≡ 0 → ⊥) → (answered s c ≡ (refusal s c, [])) × (after s c ≡ s)
unfolding plain_tests plain_no start_tests start_no store_tests store_no submit_tests submit_no hand_over_tests hand_over_no reclaim_tests reclaim_no cancel_tests cancel_no record_tests record_no begin_tests begin_no end_tests end_no
refused_leaves s (configures packet burst interval) p =
    given s _ (λ (a : After ⊤). outcome_number a.answer) (λ a. state_of a.endpoint s.ring s.finished s.records s.packets)
    (configure_refuses s.endpoint packet burst interval p) (bare (plain_tests s.endpoint) refl p) refl
refused_leaves s (starts request lengths) p =
    given s _ (λ (a : After ⊤ × List ℕ × List ℕ). outcome_number a.0.answer) (λ a. state_of a.0.endpoint s.ring s.finished a.1 a.2)
    (start_refuses s.endpoint s.records s.packets request lengths p) (bare (start_tests s.endpoint s.records (length s.packets) request lengths) refl p) refl
refused_leaves s stores p =
    given s _ (λ (a : After Stored × List ℕ × List ℕ). stored_number a.0.answer) (λ a. state_of a.0.endpoint a.1 a.2 s.records s.packets)
    (store_refuses s.endpoint s.ring s.finished s.records s.packets p) (bare (store_tests s.endpoint (length s.ring) (length s.finished) s.records (length s.packets)) refl p) refl
refused_leaves s (submits request lengths) p =
    given s _ (λ (a : After Submitted × List ℕ × List ℕ × List ℕ × List ℕ). submitted_number a.0.answer)
    (λ a. state_of a.0.endpoint a.1 a.2 a.3 a.4)
    (submit_refuses s.endpoint s.ring s.finished s.records s.packets request lengths p) (bare (submit_tests s.endpoint (length s.ring) (length s.finished) s.records (length s.packets) request lengths) refl p) refl
refused_leaves s (hands event) p =
    given s _ (λ (a : Result ℕ Refusal × List ℕ). taken_number a.0) (λ a. state_of s.endpoint s.ring a.1 s.records s.packets)
    (hand_over_refuses s.endpoint s.finished event p) (bare (hand_over_tests s.endpoint (length s.finished) event) refl p) refl
refused_leaves s (reclaims id) p =
    given s _ (λ (a : After Reclaimed × List ℕ × List ℕ). reclaimed_number a.0.answer)
    (λ a. state_of a.0.endpoint s.ring s.finished a.1 a.2)
    (reclaim_refuses s.endpoint s.finished s.records s.packets id p) (bare (reclaim_tests s.endpoint (length s.finished) s.records (length s.packets) id) refl p) refl
refused_leaves s (cancels id) p =
    given s _ (λ (a : Result ⊤ Refusal × List ℕ). outcome_number a.0) (λ a. state_of s.endpoint s.ring s.finished a.1 s.packets)
    (cancel_refuses s.endpoint s.records id p) (bare (cancel_tests s.endpoint s.records id) refl p) refl
refused_leaves s retires p =
    given s _ (λ (a : After ⊤ × List ℕ). outcome_number a.0.answer) (λ a. state_of a.0.endpoint s.ring s.finished a.1 s.packets)
    (retire_refuses s.endpoint s.records p) (bare (record_tests s.endpoint s.records) refl p) refl
refused_leaves s begins p =
    given s _ (λ (a : After (Option ResetCommands)). resetting_number a.answer) (λ a. state_of a.endpoint s.ring s.finished s.records s.packets)
    (begin_refuses s.endpoint s.records p) (bare (begin_tests s.endpoint s.records) refl p) refl
refused_leaves s (ends worked) p =
    given s _ (λ (a : After ⊤). outcome_number a.answer) (λ a. state_of a.endpoint s.ring s.finished s.records s.packets)
    (end_refuses s.endpoint worked p) (bare (end_tests s.endpoint) refl p) refl
refused_leaves s stops p = (ap command_number (stop_refuses s.endpoint p) ∙ bare (plain_tests s.endpoint) refl p, refl)
refused_leaves s resumes p = (ap command_number (resume_refuses s.endpoint p) ∙ bare (plain_tests s.endpoint) refl p, refl)
refused_leaves s points p = (ap pointed_number (pointer_refuses s.endpoint p) ∙ bare (plain_tests s.endpoint) refl p, refl)

-- A making has no state before it: it gives the four tables back as they were.
pub making_leaves : (ring finished records packets : List ℕ) (shape : Shape) (who : Identity)
    → let no = make_no (length ring) (length finished) (length records) (length packets) shape who in
    let a = make ring finished records packets shape who in
    (no ≡ 0 → ⊥)
    → (outcome_number a.0.answer ≡ (no, [])) × (a.1 ≡ ring) × (a.2 ≡ finished) × (a.3 ≡ records) × (a.4 ≡ packets)
unfolding make_tests make_no
making_leaves ring finished records packets shape who p =
    let is = make_refuses ring finished records packets shape who p in (
      ap (λ x. outcome_number x.0.answer) is ∙ bare (make_tests (length ring) (length finished) (length records) (length packets) shape who) refl p,
      ap (λ x. x.1) is,
      ap (λ x. x.2) is,
      ap (λ x. x.3) is,
      ap (λ x. x.4) is,
    )

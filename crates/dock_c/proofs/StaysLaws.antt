-- After every exported call the endpoint's words are words of an endpoint again: what a call saves fits its fields, so that no call makes the next one
-- answer 1 for a word that is too wide. Assumes nothing.
use Prim.Native.Nat.{ℕ, ◌<◌, ◌^◌}
use mathlib.Core.Bool.{true, and-eq-true_iff}
use mathlib.Core.List.{List}
use mathlib.Core.Path.{◌≡◌}
use borrow.Author.Tests.{eq-eqb}
use lib.ListN.{length}
use Rattle.records.specs.Records.{is_set}
use Rattle.dock.specs.declared.Identity.{Identity}
use Rattle.dock.specs.declared.Shape.{Shape}
use Rattle.dock.specs.Make.{make_no}
use Rattle.loaded.specs.State.{state_words, is_state, load}
use Rattle.loaded.proofs.SavedLaws.{load_narrow, kept_state}
use Rattle.told.specs.Request.{is_request, request_of}
use Rattle.saved.specs.Settle.{numbered, told}
use Rattle.saved.proofs.LeavesLaws.{make_moves}
use Rattle.saved.proofs.NarrowLaws.{make_narrow, configure_narrow, start_narrow, store_narrow, submit_narrow, reclaim_narrow, retire_narrow, begin_narrow, end_narrow}
use Rattle.dock_c.specs.Exported.{are_words, made, configured, started, stored_one, submitted, reclaimed, retired, reset_begun, reset_ended}

-- A making that is done writes them, whatever they were.
pub make_stays : (state : List ℕ) → length state ≡ state_words → (ring finished records packets : List ℕ) (shape : Shape) (who : Identity)
    → make_no (length ring) (length finished) (length records) (length packets) shape who ≡ 0
    → is_state (made state ring finished records packets shape who).1 ≡ true
unfolding made numbered
make_stays state long ring finished records packets shape who z =
    rw (eq-eqb _ _ long)
    (kept_state _ state _ (make_narrow ring finished records packets shape who z)
    (λ m. absurd (make_moves ring finished records packets shape who z m)))

-- ---- calls that tell their number only

module _ (state : List ℕ) (fit : is_state state ≡ true) where
  -- The arguments of a configuring have the widths of their types.
  pub configure_stays : (packet burst interval : ℕ) → packet < 2 ^ 16 → burst < 2 ^ 8 → interval < 2 ^ 8
      → is_state (configured state packet burst interval).1 ≡ true
  unfolding configured numbered
  configure_stays packet burst interval p b i =
      rw fit (kept_state _ state _ (configure_narrow (load state) (load_narrow state fit) packet burst interval p b i) (λ m. fit))

  pub start_stays : (records packets request lengths : List ℕ) → is_request request ≡ true
      → is_state (started state records packets request lengths).1 ≡ true
  unfolding started numbered
  start_stays records packets request lengths asked =
      rw (fit, asked)
      (kept_state _ state _ (start_narrow (load state) (load_narrow state fit) records packets (request_of request) lengths) (λ m. fit))

  pub retire_stays : (records : List ℕ) → is_state (retired state records).1 ≡ true
  unfolding retired numbered
  retire_stays records = rw fit (kept_state _ state _ (retire_narrow (load state) (load_narrow state fit) records) (λ m. fit))

  pub end_stays : (worked : ℕ) → is_state (reset_ended state worked).1 ≡ true
  unfolding reset_ended numbered
  end_stays worked = rw fit (kept_state _ state _ (end_narrow (load state) (load_narrow state fit) (is_set worked)) (λ m. fit))

-- ---- calls that have values to tell

module _ (state answer : List ℕ) (fit : are_words state answer ≡ true) where
  its_state : is_state state ≡ true
  its_state = ((and-eq-true_iff (is_state state) _).0 fit).0

  pub store_stays : (ring finished records packets : List ℕ) → is_state (stored_one state answer ring finished records packets).1 ≡ true
  unfolding stored_one told
  store_stays ring finished records packets =
      rw fit
      (kept_state _ state _ (store_narrow (load state) (load_narrow state its_state) ring finished records packets) (λ m. its_state))

  pub submit_stays : (ring finished records packets request lengths : List ℕ) → is_request request ≡ true
      → is_state (submitted state answer ring finished records packets request lengths).1 ≡ true
  unfolding submitted told
  submit_stays ring finished records packets request lengths asked =
      rw (fit, asked)
      (kept_state _ state _
      (submit_narrow (load state) (load_narrow state its_state) ring finished records packets (request_of request) lengths) (λ m. its_state))

  pub reclaim_stays : (finished records packets : List ℕ) (id : ℕ) → is_state (reclaimed state answer finished records packets id).1 ≡ true
  unfolding reclaimed told
  reclaim_stays finished records packets id =
      rw fit
      (kept_state _ state _ (reclaim_narrow (load state) (load_narrow state its_state) finished records packets id) (λ m. its_state))

  pub begin_stays : (records : List ℕ) → is_state (reset_begun state answer records).1 ≡ true
  unfolding reset_begun told
  begin_stays records = rw fit (kept_state _ state _ (begin_narrow (load state) (load_narrow state its_state) records) (λ m. its_state))

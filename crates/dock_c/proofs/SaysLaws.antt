-- After every exported call the endpoint's words say the endpoint that the call's definition leaves, also where a refusal has left them as they
-- were. Assumes nothing.
use Prim.Native.Nat.{ℕ}
use mathlib.Core.Bool.{true}
use mathlib.Core.List.{List}
use mathlib.Core.Path.{◌≡◌}
use borrow.Author.Tests.{eq-eqb}
use lib.ListN.{length}
use Rattle.records.specs.Records.{is_set}
use Rattle.dock.specs.Configure.{configure}
use Rattle.dock.specs.Make.{make_no, make}
use Rattle.dock.specs.Reclaim.{reclaim}
use Rattle.dock.specs.Reset.{begin_reset, end_reset}
use Rattle.dock.specs.Retire.{retire}
use Rattle.dock.specs.Start.{start}
use Rattle.dock.specs.NextStore.{store}
use Rattle.dock.specs.Submit.{submit}
use Rattle.loaded.specs.State.{state_words, is_state, load}
use Rattle.told.specs.Request.{is_request, request_of}
use Rattle.saved.specs.Settle.{numbered, told}
use Rattle.dock.specs.declared.Identity.{Identity}
use Rattle.dock.specs.declared.Shape.{Shape}
use Rattle.saved.proofs.LeavesLaws.{make_moves, configure_leaves, start_leaves, store_leaves, submit_leaves, reclaim_leaves, retire_leaves, begin_leaves, end_leaves}
use Rattle.loaded.proofs.SavedLaws.{kept_says}
use Rattle.dock_c.specs.Exported.{are_words, made, configured, started, stored_one, submitted, reclaimed, retired, reset_begun, reset_ended}

-- A making that is refused leaves the words, whatever they say; else they say the fresh endpoint.
pub make_says : (state : List ℕ) → length state ≡ state_words → (ring finished records packets : List ℕ) (shape : Shape) (who : Identity)
    → make_no (length ring) (length finished) (length records) (length packets) shape who ≡ 0
    → load (made state ring finished records packets shape who).1 ≡ (make ring finished records packets shape who).0.endpoint
unfolding made numbered
make_says state long ring finished records packets shape who z =
    rw (eq-eqb _ _ long) (kept_says _ state _ (λ m. absurd (make_moves ring finished records packets shape who z m)))

-- ---- calls that tell their number only

module _ (state : List ℕ) (fit : is_state state ≡ true) where
  pub configure_says : (packet burst interval : ℕ)
      → load (configured state packet burst interval).1 ≡ (configure (load state) packet burst interval).endpoint
  unfolding configured numbered
  configure_says packet burst interval = rw fit (kept_says _ state _ (configure_leaves (load state) packet burst interval))

  pub start_says : (records packets request lengths : List ℕ) → is_request request ≡ true
      → load (started state records packets request lengths).1 ≡ (start (load state) records packets (request_of request) lengths).0.endpoint
  unfolding started numbered
  start_says records packets request lengths kind =
      rw (fit, kind) (kept_says _ state _ (start_leaves (load state) records packets (request_of request) lengths))

  pub retire_says : (records : List ℕ) → load (retired state records).1 ≡ (retire (load state) records).0.endpoint
  unfolding retired numbered
  retire_says records = rw fit (kept_says _ state _ (retire_leaves (load state) records))

  pub end_says : (worked : ℕ) → load (reset_ended state worked).1 ≡ (end_reset (load state) (is_set worked)).endpoint
  unfolding reset_ended numbered
  end_says worked = rw fit (kept_says _ state _ (end_leaves (load state) (is_set worked)))

-- ---- calls that have values to tell

module _ (state answer : List ℕ) (fit : are_words state answer ≡ true) where
  pub store_says : (ring finished records packets : List ℕ)
      → load (stored_one state answer ring finished records packets).1 ≡ (store (load state) ring finished records packets).0.endpoint
  unfolding stored_one told
  store_says ring finished records packets = rw fit (kept_says _ state _ (store_leaves (load state) ring finished records packets))

  pub submit_says : (ring finished records packets request lengths : List ℕ) → is_request request ≡ true
      → load (submitted state answer ring finished records packets request lengths).1
      ≡ (submit (load state) ring finished records packets (request_of request) lengths).0.endpoint
  unfolding submitted told
  submit_says ring finished records packets request lengths kind =
      rw (fit, kind) (kept_says _ state _ (submit_leaves (load state) ring finished records packets (request_of request) lengths))

  pub reclaim_says : (finished records packets : List ℕ) (id : ℕ)
      → load (reclaimed state answer finished records packets id).1 ≡ (reclaim (load state) finished records packets id).0.endpoint
  unfolding reclaimed told
  reclaim_says finished records packets id = rw fit (kept_says _ state _ (reclaim_leaves (load state) finished records packets id))

  pub begin_says : (records : List ℕ) → load (reset_begun state answer records).1 ≡ (begin_reset (load state) records).endpoint
  unfolding reset_begun told
  begin_says records = rw fit (kept_says _ state _ (begin_leaves (load state) records))

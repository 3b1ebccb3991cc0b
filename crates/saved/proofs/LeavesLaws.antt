-- An answer that does not move the endpoint's words leaves the endpoint: of each call that changes it, by its definition. So the words that such an
-- answer leaves say the endpoint afterwards too. Assumes nothing.
use Rattle.std.specs.Prelude.{Ok, ⊤, Result, Err}
use Prim.Native.Nat.{ℕ}
use mathlib.Core.Bool.{Bool, true, false, false≢true}
use mathlib.Core.List.{List}
use mathlib.Core.Logic.{◌⊎◌, inl, inr, ⊎_elim}
use mathlib.Core.Path.{◌≡◌, refl, sym, ap, ◌∙◌}
use lib.ListN.{length}
use Rattle.base.specs.First.{pick}
use Rattle.base.proofs.Compare.{same_or_not}
use Rattle.base.proofs.Decide.{both, by_eqb}
use Rattle.records.specs.declared.Record.{Record}
use Rattle.dock.specs.declared.After.{After}
use Rattle.dock.specs.declared.Submitted.{Submitted}
use Rattle.dock.specs.declared.Refusal.{Refusal}
use Rattle.dock.specs.declared.Reclaimed.{Reclaimed}
use Rattle.dock.specs.declared.Reclaimed.TheVariants as reclaimed
use Rattle.dock.specs.declared.Stored.TheVariants.{Slot, Last}
use Rattle.dock.specs.declared.Endpoint.{Endpoint}
use Rattle.dock.specs.declared.Identity.{Identity}
use Rattle.dock.specs.declared.Request.{Request}
use Rattle.dock.specs.declared.Shape.{Shape}
use Rattle.dock.specs.Configure.{plain_no, configure}
use Rattle.dock.specs.RowOne.{Next, next_of, is_none}
use Rattle.sizes.specs.Sizes.{ring_size}
use Rattle.dock.specs.Make.{make_no, make}
use Rattle.dock.specs.Numbers.{outcome_number, stored_number, submitted_number, resetting_number}
use Rattle.dock.specs.Reclaim.{reclaim}
use Rattle.dock.specs.Reset.{begin_no, begin_reset, end_no, end_reset}
use Rattle.dock.specs.Retire.{record_no, retire}
use Rattle.dock.specs.Start.{start_no, start}
use Rattle.dock.specs.NextStore.{store_no, store, stored_answer, slot_stored}
use Rattle.dock.specs.Submit.{submit_no, submit}
use Rattle.dock.proofs.SubmitEndLaws.{submit_done}
use Rattle.dock.proofs.ReclaimLeaveLaws.{reclaim_refused, reclaim_nothing}
use Rattle.dock.proofs.RefusalLaws.{make_acts, configure_refuses, configure_acts, end_refuses, end_acts, start_refuses, start_acts, store_refuses, store_acts, submit_passed, submit_refuses, retire_refuses, retire_acts, begin_refuses, begin_clear, begin_acts}
use Rattle.loaded.specs.State.{moves}
use Rattle.told.specs.Answer.{reclaimed_told}

-- A number that moves does not fail to.
moved : (k : ℕ) {number : ℕ} → moves k ≡ true → number ≡ k → moves number ≡ false → ⊥
moved k t q m = false≢true (sym m ∙ ap moves q ∙ t)

zero_moves : moves 0 ≡ true
unfolding moves
zero_moves = refl

seven_moves : moves 7 ≡ true
unfolding moves
seven_moves = refl

eight_moves : moves 8 ≡ true
unfolding moves
eight_moves = refl

nine_moves : moves 9 ≡ true
unfolding moves
nine_moves = refl

-- A call that is done tells 0, and one that is refused leaves the endpoint.
left : {P : Type 0} (test number : ℕ) → (test ≡ 0 → number ≡ 0) → ((test ≡ 0 → ⊥) → P) → moves number ≡ false → P
left {P} test number done refused m =
    ⊎_elim (λ (z : test ≡ 0). absurd (moved 0 zero_moves (done z) m)) (λ (n : test ≡ 0 → ⊥). refused n) (same_or_not test 0)

-- A making that is not refused tells 0.
pub make_moves : (ring finished records packets : List ℕ) (shape : Shape) (who : Identity)
    → make_no (length ring) (length finished) (length records) (length packets) shape who ≡ 0
    → moves (outcome_number (make ring finished records packets shape who).0.answer).0 ≡ false → ⊥
make_moves ring finished records packets shape who z =
    moved 0 zero_moves (ap (λ x. (outcome_number x.0.answer).0) (make_acts ring finished records packets shape who z))

pub off_or_on : (b : Bool) → (b ≡ false) ⊎ (b ≡ true)
off_or_on true = inr refl
off_or_on false = inl refl

-- A store that is made tells 0.
last_or_slot : (b : Bool) (slot id bell : ℕ) → (stored_number (pick b (Ok (Last slot id bell)) (Ok (Slot slot)))).0 ≡ 0
last_or_slot true slot id bell = refl
last_or_slot false slot id bell = refl

store_tells : (n : Next) (before after : Endpoint) (v : Record) → (stored_number (stored_answer n before after v)).0 ≡ 0
unfolding stored_answer
store_tells n before after v = last_or_slot (is_none (next_of after v)) (slot_stored n before) v.id before.who.dci

module _ (e : Endpoint) where
  pub configure_leaves : (packet burst interval : ℕ) → moves (outcome_number (configure e packet burst interval).answer).0 ≡ false
      → (configure e packet burst interval).endpoint ≡ e
  configure_leaves packet burst interval =
      left (plain_no e) _
      (λ z. ap (λ (c : After ⊤). (outcome_number c.answer).0) (configure_acts e packet burst interval z))
      (λ n. ap (λ (c : After ⊤). c.endpoint) (configure_refuses e packet burst interval n))

  pub end_leaves : (worked : Bool) → moves (outcome_number (end_reset e worked).answer).0 ≡ false → (end_reset e worked).endpoint ≡ e
  end_leaves worked =
      left (end_no e) _
      (λ z. ap (λ (c : After ⊤). (outcome_number c.answer).0) (end_acts e worked z))
      (λ n. ap (λ (c : After ⊤). c.endpoint) (end_refuses e worked n))

  pub start_leaves : (records packets : List ℕ) (request : Request) (lengths : List ℕ)
      → moves (outcome_number (start e records packets request lengths).0.answer).0 ≡ false
      → (start e records packets request lengths).0.endpoint ≡ e
  start_leaves records packets request lengths =
      left (start_no e records (length packets) request lengths) _
      (λ z. ap (λ x. (outcome_number x.0.answer).0) (start_acts e records packets request lengths z))
      (λ n. ap (λ x. x.0.endpoint) (start_refuses e records packets request lengths n))

  pub retire_leaves : (records : List ℕ) → moves (outcome_number (retire e records).0.answer).0 ≡ false → (retire e records).0.endpoint ≡ e
  retire_leaves records =
      left (record_no e records) _
      (λ z. ap (λ x. (outcome_number x.0.answer).0) (retire_acts e records z))
      (λ n. ap (λ x. x.0.endpoint) (retire_refuses e records n))

  pub store_leaves : (ring finished records packets : List ℕ) → moves (stored_number (store e ring finished records packets).0.answer).0 ≡ false
      → (store e ring finished records packets).0.endpoint ≡ e
  store_leaves ring finished records packets =
      left (store_no e (length ring) (length finished) records (length packets)) _
      (λ z. ap (λ x. (stored_number x.0.answer).0) (store_acts e ring finished records packets z) ∙ store_tells _ _ _ _)
      (λ n. ap (λ x. x.0.endpoint) (store_refuses e ring finished records packets n))

  pub begin_leaves : (records : List ℕ) → moves (resetting_number (begin_reset e records).answer).0 ≡ false → (begin_reset e records).endpoint ≡ e
  begin_leaves records =
      left (begin_no e records) _
      (λ z.
      ⊎_elim
      (λ (off : e.flags.halted ≡ false). ap (λ x. (resetting_number x.answer).0) (begin_clear e records z off))
      (λ (on : e.flags.halted ≡ true). ap (λ x. (resetting_number x.answer).0) (begin_acts e records z on))
      (off_or_on e.flags.halted))
      (λ n. ap (λ x. x.endpoint) (begin_refuses e records n))

  pub submit_leaves : (ring finished records packets : List ℕ) (request : Request) (lengths : List ℕ)
      → moves (submitted_number (submit e ring finished records packets request lengths).0.answer).0 ≡ false
      → (submit e ring finished records packets request lengths).0.endpoint ≡ e
  submit_leaves ring finished records packets request lengths =
      let sizes = both (by_eqb (length ring) (ring_size e.shape.slots)) (by_eqb (length finished) (ring_size e.shape.slots)) in
      left (submit_no e (length ring) (length finished) records (length packets) request lengths) _
      (λ z.
      let passed = submit_passed e ring finished records packets request lengths z in
      let fit = sizes.so passed.0 in
      ap (λ (a : Result Submitted Refusal). (submitted_number a).0)
      (submit_done e ring finished records packets request lengths passed.1 fit.0 fit.1).0)
      (λ n. ap (λ x. x.0.endpoint) (submit_refuses e ring finished records packets request lengths n))

  -- A reclaim that frees no record: it is refused, or finds nothing.
  pub reclaim_leaves : (finished records packets : List ℕ) (id : ℕ)
      → moves (reclaimed_told (reclaim e finished records packets id).0.answer).0 ≡ false
      → (reclaim e finished records packets id).0.endpoint ≡ e
  reclaim_leaves finished records packets id = by (reclaim e finished records packets id).0.answer refl
    where
      by : (a : Result Reclaimed Refusal) → (reclaim e finished records packets id).0.answer ≡ a
          → moves (reclaimed_told (reclaim e finished records packets id).0.answer).0 ≡ false
          → (reclaim e finished records packets id).0.endpoint ≡ e
      by (Ok (reclaimed.Done c)) q m = absurd (moved 0 zero_moves (ap (λ a. (reclaimed_told a).0) q) m)
      by (Ok reclaimed.Cancelled) q m = absurd (moved 7 seven_moves (ap (λ a. (reclaimed_told a).0) q) m)
      by (Ok (reclaimed.Failed code)) q m = absurd (moved 8 eight_moves (ap (λ a. (reclaimed_told a).0) q) m)
      by (Ok reclaimed.Mismatch) q m = absurd (moved 9 nine_moves (ap (λ a. (reclaimed_told a).0) q) m)
      by (Ok reclaimed.Nothing) q m = reclaim_nothing e finished records packets id q
      by (Err n) q m = ap (λ x. x.0.endpoint) (reclaim_refused e finished records packets id n q)

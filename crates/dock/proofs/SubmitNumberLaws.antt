-- In every state that is reached from making, the numbers that submissions get one after the other are computed from a ledger of six entries, without
-- the words of any table. Assumes nothing.
use Prim.Native.Nat.{ℕ, ◌+◌}
use mathlib.Core.Bool.{Bool, true, false, ◌&&◌}
use mathlib.Core.List.{List, [], ◌∷◌}
use mathlib.Core.Path.{◌≡◌, refl, sym, ap, ◌∙◌}
use borrow.Author.Tests.{eqb-true, eqb-false, eq-eqb}
use lib.Dec.{eqb}
use lib.ListN.{length}
use Rattle.base.specs.First.{pick}
use Rattle.base.proofs.Decide.{both, by_eqb, if_so}
use Rattle.mask.specs.Occupancy as masks
use Rattle.mask.specs.declared.Occupancy.{Occupancy}
use Rattle.sizes.specs.Sizes.{ring_size}
use Rattle.dock.specs.declared.Endpoint.{Endpoint}
use Rattle.dock.specs.declared.Request.{Request}
use Rattle.dock.specs.declared.After.{After}
use Rattle.dock.specs.declared.Submitted.{Submitted}
use Rattle.dock.specs.Numbers.{Numbered, submitted_number}
use Rattle.dock.specs.Requests.{required}
use Rattle.dock.specs.Start.{crowded, too_long, is_full, beyond, number_from, start_no, record_taken, charged, started_endpoint}
use Rattle.dock.specs.Submit.{submit_no, submit}
use Rattle.dock.specs.Run.{State, submits, after, answered, Reached, next}
use Rattle.dock.proofs.RefusalAnswerLaws.{refused_leaves}
use Rattle.dock.proofs.RefusalLaws.{submit_as_start, submit_acts, submit_refuses}
use Rattle.dock.proofs.RefusalRowLaws.{start_rows}
use Rattle.dock.proofs.ReachedSoundLaws.{reached_sound}
use Rattle.dock.proofs.ReachedFitLaws.{reached_fits_with}
use Rattle.dock.proofs.SubmitEndLaws.{start_finishes}

-- ---- the ledger

-- What the number of a submission depends on.
pub record Ledger : Type 0 where
  pub slots : ℕ
  pub mask : ℕ
  pub outstanding : ℕ
  pub occupancy : Occupancy
  pub busy : Bool
  pub reset : Bool

abbrev pub ledger_of : Endpoint → Ledger
ledger_of e = record {
  slots = e.shape.slots;
  mask = e.who.mask;
  outstanding = e.account.outstanding;
  occupancy = e.account.occupancy;
  busy = e.work.busy;
  reset = e.flags.reset;
}

-- The rows of a submission behind row 1, in 01's order.
unfoldable pub ledger_no : Ledger → Request → List ℕ → ℕ
ledger_no b request lengths =
    pick b.busy 12
    (pick b.reset 2
    (pick (crowded b.slots b.outstanding (required request (length lengths))) 2
    (pick (too_long request.what request.length lengths) 3
    (pick (is_full (masks.lowest b.occupancy)) 4
    (pick (beyond b.mask request.address request.length) 5 0)))))

-- The ledger after a submission: one that is admitted takes the lowest free record and its TRBs, and nothing is under way then.
abbrev pub taking : Ledger → Request → List ℕ → Ledger
taking b request lengths = record {
  slots = b.slots;
  mask = b.mask;
  outstanding = b.outstanding + required request (length lengths);
  occupancy = masks.taken b.occupancy (number_from (masks.lowest b.occupancy));
  busy = false;
  reset = b.reset;
}

unfoldable pub ledger_after : Ledger → Request → List ℕ → Ledger
ledger_after b request lengths = pick (eqb (ledger_no b request lengths) 0) (taking b request lengths) b

-- ---- one submission

module _ {s : State} (h : Reached s) (request : Request) (lengths : List ℕ) where
  abbrev e : Endpoint
  e = s.endpoint

  abbrev number : ℕ
  number = start_no e s.records (length s.packets) request lengths

  abbrev whole : After Submitted × List ℕ × List ℕ × List ℕ × List ℕ
  whole = submit e s.ring s.finished s.records s.packets request lengths

  -- The number of a start is the ledger's.
  pub start_number : number ≡ ledger_no (ledger_of e) request lengths
  unfolding ledger_no
  start_number = start_rows e s.records s.packets request lengths ∙ rw (reached_fits_with h, eq-eqb _ _ (reached_sound h).packets_long)

  fit : (eqb (length s.ring) (ring_size e.shape.slots) && eqb (length s.finished) (ring_size e.shape.slots)) ≡ true
  fit =
      let size = ring_size e.shape.slots in
      if_so (both (by_eqb (length s.ring) size) (by_eqb (length s.finished) size)) ((reached_sound h).ring_long, (reached_sound h).finished_long)

  -- The whole submission's number is that of its start.
  same : submit_no e (length s.ring) (length s.finished) s.records (length s.packets) request lengths ≡ number
  same = submit_as_start e s.ring s.finished s.records s.packets request lengths fit

  -- Where it is 0 the whole submission is done, and its ledger is that of its start, whatever the stores wrote;
  admitted : number ≡ 0 → ((answered s (submits request lengths)).0 ≡ 0) × (ledger_of whole.0.endpoint ≡ taking (ledger_of e) request lengths)
  unfolding started_endpoint charged record_taken
  admitted passed =
      let ring_long = (reached_sound h).ring_long in
      let finished_long = (reached_sound h).finished_long in
      let acts = submit_acts e s.ring s.finished s.records s.packets request lengths (same ∙ passed) in
      let ended = start_finishes e s.ring s.finished s.records s.packets request lengths passed ring_long finished_long in (
        ap (λ (x : After Submitted × List ℕ × List ℕ × List ℕ × List ℕ). (submitted_number x.0.answer).0) acts ∙ rw ended.answer,
        ap (λ (x : After Submitted × List ℕ × List ℕ × List ℕ × List ℕ). ledger_of x.0.endpoint) acts
            ∙ rw (ended.work, ended.kept.shape, ended.kept.who, ended.kept.account, ended.kept.flags),
      )

  -- else it is refused with that number, and the ledger stays.
  refused : (number ≡ 0 → ⊥) → ((answered s (submits request lengths)).0 ≡ number) × (ledger_of whole.0.endpoint ≡ ledger_of e)
  refused some =
      let left = submit_refuses e s.ring s.finished s.records s.packets request lengths (λ z. some (sym same ∙ z)) in (
        ap (λ (x : Numbered). x.0) (refused_leaves s (submits request lengths) (λ z. some (sym same ∙ z))).0 ∙ same,
        ap (λ (x : After Submitted × List ℕ × List ℕ × List ℕ × List ℕ). ledger_of x.0.endpoint) left,
      )

  -- So a submission gets the ledger's number, and leaves the ledger that is computed.
  pub submit_number : (answered s (submits request lengths)).0 ≡ ledger_no (ledger_of e) request lengths
  submit_number = by_number (eqb number 0) refl
    where
      by_number : (b : Bool) → eqb number 0 ≡ b → (answered s (submits request lengths)).0 ≡ ledger_no (ledger_of e) request lengths
      by_number true t = let z = eqb-true number 0 t in (admitted z).0 ∙ sym z ∙ start_number
      by_number false t = (refused (eqb-false number 0 t)).0 ∙ start_number

  pub submit_ledger : ledger_of (after s (submits request lengths)).endpoint ≡ ledger_after (ledger_of e) request lengths
  unfolding ledger_after
  submit_ledger = by_number (eqb number 0) refl
    where
      by_number : (b : Bool) → eqb number 0 ≡ b
          → ledger_of whole.0.endpoint ≡ pick (eqb (ledger_no (ledger_of e) request lengths) 0) (taking (ledger_of e) request lengths) (ledger_of e)
      by_number true t = (admitted (eqb-true number 0 t)).1 ∙ rw (sym start_number, t)
      by_number false t = (refused (eqb-false number 0 t)).1 ∙ rw (sym start_number, t)

-- ---- submissions in order

abbrev pub Asked : Type 0
Asked = Request × List ℕ

-- The numbers that they get from a state on, and from a ledger on.
unfoldable pub numbers_from : State → List Asked → List ℕ
numbers_from s [] = []
numbers_from s (a ∷ more) = (answered s (submits a.0 a.1)).0 ∷ numbers_from (after s (submits a.0 a.1)) more

unfoldable pub ledger_numbers : Ledger → List Asked → List ℕ
ledger_numbers b [] = []
ledger_numbers b (a ∷ more) = ledger_no b a.0 a.1 ∷ ledger_numbers (ledger_after b a.0 a.1) more

-- They are the same.
pub numbers_are : {s : State} → Reached s → (list : List Asked) → numbers_from s list ≡ ledger_numbers (ledger_of s.endpoint) list
unfolding numbers_from ledger_numbers
numbers_are {s} h [] = refl
numbers_are {s} h (a ∷ more) = rw (numbers_are {s = after s (submits a.0 a.1)} (next h (submits a.0 a.1)) more, submit_number h a.0 a.1, submit_ledger h a.0 a.1)

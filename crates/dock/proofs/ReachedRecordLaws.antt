-- In every state that is reached from making, each call but a reclaim of its own id leaves of a held record what a later reclaim tells of it: id, kind,
-- direction, length, place, and what was recorded of its data; and so do any such calls in a row. Assumes nothing.
use Rattle.std.specs.Prelude.{Option, Some, None, Result, ⊤}
use Prim.Native.Nat.{ℕ, zero, suc, ◌<◌}
use mathlib.Core.Bool.{true}
use mathlib.Core.List.{List}
use mathlib.Core.Path.{◌≡◌, refl, sym, ap, ◌∙◌}
use native.Mathlib.Omega.{arith}
use borrow.Author.Tests.{eqb-true}
use lib.Dec.{eqb}
use lib.ListN.{length}
use Rattle.mask.specs.Occupancy.{held}
use Rattle.mask.specs.declared.Occupancy.{Occupancy}
use Rattle.sizes.specs.Sizes.{record_count, record_words}
use Rattle.ids.specs.Lookup.{find_in}
use Rattle.ids.proofs.AnyLaws.{never_both}
use Rattle.records.specs.States.{stopped}
use Rattle.records.specs.Records.{state_word, cancelled_word, is_set, word_at, record_at}
use Rattle.records.specs.declared.Record.{Record}
use Rattle.records.proofs.RecordLaws.{word_kept}
use Rattle.dock.specs.declared.Refusal.{Refusal}
use Rattle.dock.specs.declared.After.{After}
use Rattle.dock.specs.declared.Request.{Request}
use Rattle.dock.specs.RowOne.{flies}
use Rattle.dock.specs.Start.{start_no, start}
use Rattle.dock.specs.Cancel.{marked, cancel_no, cancel}
use Rattle.dock.specs.Retire.{retired_below, record_no, retire}
use Rattle.dock.specs.Run.{State, Call, configures, starts, stores, submits, hands, reclaims, cancels, retires, begins, ends, stops, resumes, points, after, Reached, next}
use Rattle.dock.proofs.SubmitLaws.{submit_keeps}
use Rattle.dock.proofs.StartLaws.{record_free, records_kept}
use Rattle.dock.proofs.ReclaimOnceLaws.{Has, reclaim_other_record}
use Rattle.dock.proofs.RetireLaws.{picked}

-- The words of record r but those of its state and of its cancelled mark.
abbrev Stays : List ℕ → ℕ → List ℕ → Type 0
Stays records r after = (k : ℕ) → k < record_words → (k ≡ state_word → ⊥) → (k ≡ cancelled_word → ⊥) → word_at after r k ≡ word_at records r k

-- What a reclaim tells of a record.
pub record Same (before after : Record) : Type 0 where
  pub id : after.id ≡ before.id
  pub kind : after.kind ≡ before.kind
  pub incoming : after.incoming ≡ before.incoming
  pub size : after.length ≡ before.length
  pub place : after.place ≡ before.place
  pub recorded : after.recorded ≡ before.recorded

same_whole : (before after : Record) → after ≡ before → Same before after
same_whole before after q = record {
  id = ap (λ (x : Record). x.id) q;
  kind = ap (λ (x : Record). x.kind) q;
  incoming = ap (λ (x : Record). x.incoming) q;
  size = ap (λ (x : Record). x.length) q;
  place = ap (λ (x : Record). x.place) q;
  recorded = ap (λ (x : Record). x.recorded) q;
}

same_on : (a b c : Record) → Same a b → Same b c → Same a c
same_on a b c p q = record {
  id = q.id ∙ p.id;
  kind = q.kind ∙ p.kind;
  incoming = q.incoming ∙ p.incoming;
  size = q.size ∙ p.size;
  place = q.place ∙ p.place;
  recorded = q.recorded ∙ p.recorded;
}

same_words : (records : List ℕ) (r : ℕ) (after : List ℕ) → Stays records r after → Same (record_at records r) (record_at after r)
unfolding record_at
same_words records r after stays = record {
  id = stays 0 (omega arith) (λ e. omega arith) (λ e. omega arith);
  kind = stays 1 (omega arith) (λ e. omega arith) (λ e. omega arith);
  incoming = ap is_set (stays 2 (omega arith) (λ e. omega arith) (λ e. omega arith));
  size = stays 6 (omega arith) (λ e. omega arith) (λ e. omega arith);
  place = stays 8 (omega arith) (λ e. omega arith) (λ e. omega arith);
  recorded = stays 11 (omega arith) (λ e. omega arith) (λ e. omega arith);
}

-- ---- the calls

mark_stays : (records : List ℕ) (f : Option ℕ) (r : ℕ) → Stays records r (marked records f)
mark_stays records None r k l a b = refl
mark_stays records (Some q) r k l a b = word_kept records q cancelled_word 1 r k (λ e. b (omega arith))

retired_stays : (n : ℕ) (occupancy : Occupancy) (outstanding : ℕ) (records : List ℕ) (r : ℕ) → Stays records r (retired_below n occupancy outstanding records).1
unfolding retired_below
retired_stays zero occupancy outstanding records r k l a b = refl
retired_stays (suc n) occupancy outstanding records r k l a b =
    let s = retired_below n occupancy outstanding records in
    let before = retired_stays n occupancy outstanding records r k l a b in
    picked (λ (x : ℕ × List ℕ). word_at x.1 r k ≡ word_at records r k) (flies s.1 occupancy n) _ _
    (λ t. word_kept s.1 n state_word stopped r k (λ e. a (omega arith)) ∙ before) (λ t. before)

module _ (s : State) (r : ℕ) where
  abbrev v : Record
  v = record_at s.records r

  cancel_stays : (id : ℕ) → Same v (record_at (after s (cancels id)).records r)
  unfolding cancel
  cancel_stays id =
      let f = find_in s.records s.endpoint.account.occupancy id in
      picked (λ (a : Result ⊤ Refusal × List ℕ). Same v (record_at a.1 r)) (eqb (cancel_no s.endpoint s.records id) 0) _ _
      (λ t. same_words s.records r (marked s.records f) (mark_stays s.records f r)) (λ t. same_whole v v refl)

  retire_stays : Same v (record_at (after s retires).records r)
  unfolding retire
  retire_stays =
      let a = s.endpoint.account in
      picked (λ (a : After ⊤ × List ℕ). Same v (record_at a.1 r)) (eqb (record_no s.endpoint s.records) 0) _ _
      (λ t. same_words s.records r (retired_below record_count a.occupancy a.outstanding s.records).1
      (retired_stays record_count a.occupancy a.outstanding s.records r))
      (λ t. same_whole v v refl)

  -- A start takes a record that is free.
  start_stays : (request : Request) (lengths : List ℕ) → held s.endpoint.account.occupancy r ≡ true
      → Same v (record_at (after s (starts request lengths)).records r)
  unfolding start
  start_stays request lengths mine =
      let e = s.endpoint in
      picked (λ (a : After ⊤ × List ℕ × List ℕ). Same v (record_at a.1 r)) (eqb (start_no e s.records (length s.packets) request lengths) 0) _ _
      (λ t.
      let passed = eqb-true (start_no e s.records (length s.packets) request lengths) 0 t in
      same_whole v _
      (records_kept e s.records s.packets request lengths passed r
      (λ q. never_both (sym (ap (held e.account.occupancy) q) ∙ mine) (record_free e s.records s.packets request lengths passed))))
      (λ t. same_whole v v refl)

-- ---- the theorem

pub record_stays : {s : State} → Reached s → (c : Call) (r : ℕ) → r < record_count → held s.endpoint.account.occupancy r ≡ true
    → ((id : ℕ) → c ≡ reclaims id → Has s id r → ⊥) → Same (record_at s.records r) (record_at (after s c).records r)
record_stays {s} h (configures packet burst interval) r l mine apart = same_whole _ _ refl
record_stays {s} h (starts request lengths) r l mine apart = start_stays s r request lengths mine
record_stays {s} h stores r l mine apart = same_whole _ _ refl
record_stays {s} h (submits request lengths) r l mine apart =
    submit_keeps (λ (t : State). Same (record_at s.records r) (record_at t.records r)) (λ t k. k) s request lengths (same_whole _ _ refl)
    (start_stays s r request lengths mine)
record_stays {s} h (hands event) r l mine apart = same_whole _ _ refl
record_stays {s} h (reclaims id) r l mine apart =
    same_words s.records r (after s (reclaims id)).records (λ k m a b. reclaim_other_record h id r k l m (apart id refl))
record_stays {s} h (cancels id) r l mine apart = cancel_stays s r id
record_stays {s} h retires r l mine apart = retire_stays s r
record_stays {s} h begins r l mine apart = same_whole _ _ refl
record_stays {s} h (ends worked) r l mine apart = same_whole _ _ refl
record_stays {s} h stops r l mine apart = same_whole _ _ refl
record_stays {s} h resumes r l mine apart = same_whole _ _ refl
record_stays {s} h points r l mine apart = same_whole _ _ refl

-- ---- since a state

-- State t comes after s by calls that leave record r held and are no reclaim of its id.
pub data Since (r : ℕ) (s : State) : State → Type 0 where
  same : Since r s s
  then : {t : State} → Since r s t → held t.endpoint.account.occupancy r ≡ true → (c : Call) → ((id : ℕ) → c ≡ reclaims id → Has t id r → ⊥)
      → Since r s (after t c)

pub since_reached : {r : ℕ} {s t : State} → Reached s → Since r s t → Reached t
since_reached h same = h
since_reached h (then q mine c apart) = next (since_reached h q) c

pub since_stays : {r : ℕ} {s t : State} → Reached s → r < record_count → Since r s t → Same (record_at s.records r) (record_at t.records r)
since_stays h l same = same_whole _ _ refl
since_stays {r} {s} h l (then {t} q mine c apart) =
    same_on (record_at s.records r) (record_at t.records r) (record_at (after t c).records r) (since_stays h l q)
    (record_stays (since_reached h q) c r l mine apart)

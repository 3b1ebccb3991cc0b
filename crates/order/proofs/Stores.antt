-- How many stores a TD takes: one for each TRB, one more if it is deferred, and one more, the link's, if it comes to slot K. Each store made
-- takes one off (`store_counts`), so after as many the TD is no longer under way (`finishes`).
-- Assumes nothing.
use mathlib.Core.Path.{◌≡◌, refl, ap, subst⁻¹}
use mathlib.Core.Bool.{Bool, true, false}
use mathlib.Core.Option.{Option, none, some}
use mathlib.Core.List.{List, [], ◌∷◌}
use Prim.Native.Nat.{ℕ, zero, suc, ◌+◌, ◌≤◌, ◌<◌}
use native.Mathlib.Omega.{arith}
use lib.Dec.{eqb, leb, leb→le, le→leb}
use lib.ListN.{length}
use Rattle.order.specs.Model.{Slots, Position, choose, advance, around, Entry, Td, Work, idle, opening, busy, State, leaves, store_as, store, starts, begin}
use Rattle.order.proofs.Index.{eqb-true, eqb-false, T_true, not_T_false}
use Rattle.order.proofs.Moves.{Inv, Busy, doing_of, store_keeps, facts}

-- the link's store, if n TRBs from place i on come to slot K
abbrev pub link_due : ℕ → ℕ → ℕ → ℕ
link_due K i n = choose (leb K (i + n)) 1 0

due_yes : (K i n : ℕ) → K ≤ i + n → link_due K i n ≡ 1
due_yes K i n h = rw (T_true (leb K (i + n)) (le→leb K (i + n) h))

due_no : (K i n : ℕ) → i + n < K → link_due K i n ≡ 0
due_no K i n h = rw (not_T_false (leb K (i + n)) (λ t. omega (arith, leb→le K (i + n) t)))

abbrev pub again_due : {A : Type 0} → Option A → ℕ
again_due none = 0
again_due (some e) = 1

module _ {K : ℕ} {S : Slots K} where
  -- the stores that the TD under way has yet to make, with the producer at p
  abbrev pub left_by : Position → Work S → ℕ
  left_by p idle = 0
  left_by p (opening first rest link) = suc (length rest + link_due K (suc p.place) (length rest) + 1)
  left_by p (busy rest link again) = length rest + link_due K p.place (length rest) + again_due again

  unfoldable pub stores_left : State S → ℕ
  stores_left s = left_by s.producer s.work

  unfoldable pub stores : ℕ → State S → State S
  stores zero s = s
  stores (suc n) s = stores n (store s)

module _ {K : ℕ} (S : Slots K) where
  left_due : (p : Position) (link : S.Trb) → p.place ≤ K → (b : Bool) → eqb p.place K ≡ b → left_by {S =
      S} p (choose b (busy [] link none) idle) ≡ 0 + link_due K p.place 0 + 0
  left_due p link h true e = refl
  left_due p link h false e = omega (arith, eqb-false p.place K e, due_no K p.place 0 (omega (arith, eqb-false p.place K e)))

  left_leaves : (p : Position) (rest : List S.Trb) (link : S.Trb) (again : Option (Entry S)) → p.place ≤ K
      → left_by {S = S} p (leaves p rest link again) ≡ length rest + link_due K p.place (length rest) + again_due again
  left_leaves p [] link none h = left_due p link h (eqb p.place K) refl
  left_leaves p [] link (some e) h = refl
  left_leaves p (x ∷ xs) link again h = refl

module _ {K : ℕ} {S : Slots K} where
  module _ (s : State S) (i : Inv s) where
    -- fewer than K TRBs are still to be stored
    few : (rest : List S.Trb) (link : S.Trb) (again : Option (Entry S)) → s.work ≡ busy rest link again → length rest < K
    few rest link again e = omega (arith, (facts s i (busy rest link again) i.hidden e refl tt).covered, i.room)

    counts_by : (w : Work S) (b : Bool) → s.work ≡ w → eqb s.producer.place K ≡ b → Busy w
        → suc (left_by (store_as s s.producer w b).producer (store_as s s.producer w b).work) ≡ left_by s.producer w
    counts_by idle b e k t = absurd t
    counts_by (opening first rest link) b e k t = refl
    counts_by (busy rest link again) true e k t =
        let p : Position = s.producer in
        omega (
          arith,
          left_leaves S (around p) rest link again (omega arith),
          due_no K 0 (length rest)
              (omega (arith, few rest link again e)),
          due_yes K p.place (length rest) (omega (arith, eqb-true p.place K k)),
        )
    counts_by (busy (x ∷ xs) link again) false e k t =
        let p : Position = s.producer in
        let same : link_due K (suc p.place) (length xs) ≡ link_due K p.place (suc (length xs)) =
        ap (λ (n : ℕ). choose (leb K n) 1 0) (omega arith) in
        omega (arith, left_leaves S (advance p) xs link again (omega (arith, i.good.producer_in, eqb-false p.place K k)))
    counts_by (busy [] link (some again)) false e k t =
        let p : Position = s.producer in
        omega (arith, due_no K p.place 0 (omega (arith, i.good.producer_in, eqb-false p.place K k)))
    counts_by (busy [] link none) false e k t = absurd (eqb-false s.producer.place K k ((doing_of s i e).due refl))

    pub store_counts : Busy s.work → suc (stores_left (store s)) ≡ stores_left s
    unfolding stores_left store
    store_counts t = counts_by s.work (eqb s.producer.place K) refl refl t

  still_busy : (w : Work S) → (Busy w → ⊥) → w ≡ idle
  still_busy idle f = refl
  still_busy (opening first rest link) f = absurd (f tt)
  still_busy (busy rest link again) f = absurd (f tt)

  busy_or_idle : (w : Work S) → Dec (Busy w)
  busy_or_idle idle = no (λ t. t)
  busy_or_idle (opening first rest link) = yes tt
  busy_or_idle (busy rest link again) = yes tt

  idle_store : (s : State S) → s.work ≡ idle → store s ≡ s
  unfolding store
  idle_store s e = rw e

  idle_left : (s : State S) → s.work ≡ idle → {n : ℕ} → stores_left s ≤ n
  unfolding stores_left
  idle_left s e = rw e (omega arith)

  -- a TD that is begun at place i takes this many stores
  abbrev pub stores_of : Td S → ℕ → ℕ
  stores_of td i = suc (length td.rest) + link_due K i (suc (length td.rest)) + choose td.deferred 1 0

  starts_counts : (td : Td S) (p : Position) (b : Bool)
      → left_by p (starts td b) ≡ suc (length td.rest) + link_due K p.place (suc (length td.rest)) + choose b 1 0
  starts_counts td p true =
      let same : link_due K (suc p.place) (length td.rest) ≡ link_due K p.place (suc (length td.rest)) =
      ap (λ (n : ℕ). choose (leb K n) 1 0) (omega arith) in
      omega arith
  starts_counts td p false = refl

  pub begin_counts : (s : State S) (td : Td S) → stores_left (begin s td) ≡ stores_of td s.producer.place
  unfolding stores_left begin
  begin_counts s td = starts_counts td s.producer td.deferred

  pub finishes : 0 < K → (n : ℕ) (s : State S) → Inv s → stores_left s ≤ n → (stores n s).work ≡ idle
  unfolding stores
  finishes some_slot zero s i h =
      elim (busy_or_idle s.work) [ yes t ↦ absurd (omega (arith, store_counts s i t)) | no f ↦ still_busy s.work f ]
  finishes some_slot (suc n) s i h =
      elim (busy_or_idle s.work) [
        | yes t ↦ finishes some_slot n (store s) (store_keeps some_slot s i) (omega (arith, store_counts s i t))
        | no f ↦
            let e : s.work ≡ idle = still_busy s.work f in
            subst⁻¹ (λ (x : State S). (stores n x).work ≡ idle) (idle_store s e) (finishes some_slot n s i (idle_left s e))
      ]

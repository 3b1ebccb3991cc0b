-- The invariant of a whole state (`Inv`), and that every move keeps it: so it holds in every state that a run reaches (`keeps`).
-- Assumes nothing.
use mathlib.Core.Path.{◌≡◌, refl, sym, ap, ◌∙◌, subst, subst⁻¹}
use mathlib.Core.Logic.{◌≢◌}
use mathlib.Core.Bool.{Bool, true, false, not, beq}
use mathlib.Core.Option.{Option, none, some}
use mathlib.Core.List.{List, [], ◌∷◌, ◌++◌, append-nil, append_assoc}
use Prim.Native.Nat.{ℕ, suc, ◌+◌, ◌≤◌, ◌<◌}
use native.Mathlib.Omega.{arith}
use lib.Dec.{eqb}
use lib.ListN.{length, take, length-append}
use lib.Seq.{take-append_seam, append_snoc}
use Rattle.order.specs.Model.{Slots, Position, choose, advance, around, next, Entry, Td, Work, idle, opening, busy, State, placed, layout, Plain, Zeroed, made}
use Rattle.order.specs.Model.{leaves, store_as, store, moved, step_as, step, starts, begin, free, stop, resume, MayBegin, MayFree, Move, to_begin, to_store, to_step, to_free, to_stop, to_resume, act, May, Run}
use Rattle.order.specs.Model as Model
use Rattle.order.proofs.Index.{pos, eqb-true, eqb-false}
use Rattle.order.proofs.Invariant.{Good, producer_is, put_visible, hide, put_hidden, reveal, put_link, cut, consume, follow, View, waits, follows, consumes, view, at_first}

-- ---- the invariant of a state

module _ {K : ℕ} (S : Slots K) where
  -- no TD is under way
  pub record Rests (p : Position) (hidden : List S.Trb) : Type 0 where
    pub none_hidden : hidden ≡ []
    pub off_link : p.place ≢ K

  -- a deferred TD with nothing stored. The TRBs consumed and visible are those admitted before it
  pub record Opens (first : S.Trb) (rest : List S.Trb) (link : S.Trb) (p : Position) (hidden : List S.Trb) (open-to before : ℕ) : Type 0 where
    pub none_hidden : hidden ≡ []
    pub off_link : p.place ≢ K
    pub plain : Plain S (first ∷ rest)
    pub is_link_lem : S.is_link link ≡ true
    pub marked : open-to ≡ before

  -- a TD that is not deferred: each TRB stored is visible
  pub record Shows (rest : List S.Trb) (link : S.Trb) (p : Position) (hidden : List S.Trb) : Type 0 where
    pub none_hidden : hidden ≡ []
    pub plain : Plain S rest
    pub is_link_lem : S.is_link link ≡ true
    -- with all its TRBs stored, the link is still due
    pub due : rest ≡ [] → p.place ≡ K

  -- a deferred TD: what is stored of it is hidden, and its first TRB, number E, is stored again at the end
  pub record Hides (rest : List S.Trb) (link : S.Trb) (again : Entry S) (E : ℕ) (hidden : List S.Trb) (open-to before : ℕ) : Type 0 where
    pub first : S.Trb
    pub others : List S.Trb
    pub hidden_are : hidden ≡ first ∷ others
    pub again_is : again ≡ placed S (pos K E) first
    pub plain : Plain S rest
    pub is_link_lem : S.is_link link ≡ true
    pub marked : open-to ≡ before

  abbrev pub Doing : Work S → Position → ℕ → List S.Trb → ℕ → ℕ → Type 0
  Doing idle p E hidden open-to before = Rests p hidden
  Doing (opening first rest link) p E hidden open-to before = Opens first rest link p hidden open-to before
  Doing (busy rest link none) p E hidden open-to before = Shows rest link p hidden
  Doing (busy rest link (some again)) p E hidden open-to before = Hides rest link again E hidden open-to before

module _ {K : ℕ} {S : Slots K} where
  -- the TRBs of the TD under way that are not stored yet
  abbrev pub pending : Work S → List S.Trb
  pending idle = []
  pending (opening first rest link) = first ∷ rest
  pending (busy rest link again) = rest

  abbrev pub Busy : Work S → Type 0
  Busy idle = ⊥
  Busy (opening first rest link) = Unit {0}
  Busy (busy rest link again) = Unit {0}

  -- where the controller stands or, while it is stopped, where it will be set
  abbrev pub head : State S → Position
  head s = choose s.live s.controller s.producer

  pub record Inv (s : State S) : Type 0 where
    pub C : ℕ
    pub E : ℕ
    pub P : ℕ
    pub queue : List S.Trb
    pub hidden : List S.Trb
    pub good : Good S s.ring s.producer (head s) C E P queue hidden
    pub doing : Doing S s.work s.producer E hidden (length s.consumed + length queue) s.before
    pub awake : Busy s.work → s.live ≡ true
    -- what is consumed, and then what is visible, hidden and still to be stored, are the TRBs admitted
    pub ledger : s.admitted ≡ s.consumed ++ layout S (pos K C) (queue ++ hidden ++ pending s.work)
    pub covered : length queue + length hidden + length (pending s.work) ≤ s.outstanding
    pub room : s.outstanding < K

-- ---- a running controller, and lists

chosen : (b : Bool) (c p : Position) → b ≡ true → choose b c p ≡ c
chosen b c p e = rw e

module _ {K : ℕ} (S : Slots K) where
  pub length_layout : (p : Position) (xs : List S.Trb) → length (layout S p xs) ≡ length xs
  length_layout p [] = refl
  length_layout p (x ∷ xs) = ap suc (length_layout (next K p) xs)

  pub layout_append : (n m : ℕ) (xs ys : List S.Trb) → n + length xs ≡ m
      → layout S (pos K n) (xs ++ ys) ≡ layout S (pos K n) xs ++ layout S (pos K m) ys
  layout_append n m [] ys e =
      let k : n ≡ m = omega arith in
      rw k
  layout_append n m (x ∷ xs) ys e = ap (λ (l : List (Entry S)). placed S (pos K n) x ∷ l) (layout_append (suc n) m xs ys (omega arith))

  -- the same TRBs, however they are parted
  one_shown : (q xs : List S.Trb) (x : S.Trb) → q ++ [] ++ x ∷ xs ≡ q ++ x ∷ [] ++ [] ++ xs
  one_shown q xs x = simp (append_assoc, append-nil)

  one_hidden : (q xs : List S.Trb) (f : S.Trb) → q ++ [] ++ f ∷ xs ≡ q ++ f ∷ [] ++ xs
  one_hidden q xs f = simp (append_assoc, append-nil)

  one_more : (q h xs : List S.Trb) (f x : S.Trb) → q ++ f ∷ h ++ x ∷ xs ≡ q ++ f ∷ (h ++ x ∷ []) ++ xs
  one_more q h xs f x = simp append_assoc

  all_shown : (q h : List S.Trb) → q ++ h ++ [] ≡ q ++ h ++ [] ++ []
  all_shown q h = simp append-nil

  pending_due : (b : Bool) (link : S.Trb) → pending {S = S} (choose b (busy [] link none) idle) ≡ []
  pending_due true link = refl
  pending_due false link = refl

  pub pending_leaves : (p : Position) (rest : List S.Trb) (link : S.Trb) (again : Option (Entry S)) → pending {S =
      S} (leaves p rest link again) ≡ rest
  pending_leaves p [] link none = pending_due (eqb p.place K) link
  pending_leaves p [] link (some e) = refl
  pending_leaves p (x ∷ xs) link again = refl

  -- what is left after a store, once more
  module _ (p : Position) (E : ℕ) (hidden : List S.Trb) (open-to before : ℕ) where
    due_shows : (link : S.Trb) → hidden ≡ [] → S.is_link link ≡ true → (b : Bool) → eqb p.place K ≡ b
        → Doing S (choose b (busy [] link none) idle) p E hidden open-to before
    due_shows link h k true e = record { none_hidden = h; plain = tt; is_link_lem = k; due = λ _. eqb-true p.place K e }
    due_shows link h k false e = record { none_hidden = h; off_link = eqb-false p.place K e }

    leaves_shows : (rest : List S.Trb) (link : S.Trb) → hidden ≡ [] → Plain S rest → S.is_link link ≡ true
        → Doing S (leaves p rest link none) p E hidden open-to before
    leaves_shows [] link h pl k = due_shows link h k (eqb p.place K) refl
    leaves_shows (x ∷ xs) link h pl k = record { none_hidden = h; plain = pl; is_link_lem = k; due = λ e. absurd (omega (arith, ap length e)) }

    leaves_hides : (rest : List S.Trb) (link : S.Trb) (again : Entry S) → Hides S rest link again E hidden open-to before
        → Doing S (leaves p rest link (some again)) p E hidden open-to before
    leaves_hides [] link again d = d
    leaves_hides (x ∷ xs) link again d = d

-- ---- the producer's next store

module _ {K : ℕ} {S : Slots K} where
  -- the invariant of a state with work w and hidden TRBs h, where a TD is under way: the controller runs
  pub record Facts (s : State S) (C E P : ℕ) (queue hidden : List S.Trb) (w : Work S) : Type 0 where
    pub on : s.live ≡ true
    pub good : Good S s.ring s.producer s.controller C E P queue hidden
    pub ledger : s.admitted ≡ s.consumed ++ layout S (pos K C) (queue ++ hidden ++ pending w)
    pub covered : length queue + length hidden + length (pending w) ≤ s.outstanding
    pub room : s.outstanding < K

  -- what the invariant says of the work, once it is known which it is
  pub doing_of : (s : State S) (i : Inv s) {w : Work S} → s.work ≡ w
      → Doing S w s.producer i.E i.hidden (length s.consumed + length i.queue) s.before
  doing_of s i e =
      subst (λ (w : Work S). Doing S w s.producer i.E i.hidden (length s.consumed + length i.queue) s.before) e i.doing

  pub facts : (s : State S) (i : Inv s) (w : Work S) (h : List S.Trb) → s.work ≡ w → i.hidden ≡ h → Busy w
      → Facts s i.C i.E i.P i.queue h w
  facts s i w h e k b =
      let on : s.live ≡ true = i.awake (subst⁻¹ Busy e b) in
      record {
        on = on;
        good =
            subst (λ (x : List S.Trb). Good S s.ring s.producer s.controller i.C i.E i.P i.queue x) k
            (subst (λ (c : Position). Good S s.ring s.producer c i.C i.E i.P i.queue i.hidden) (chosen s.live s.controller s.producer on) i.good);
        ledger = rw (e, k) at i.ledger;
        covered = rw (e, k) at i.covered;
        room = i.room;
      }

  regroup : (s : State S) (C : ℕ) (a b : List S.Trb) → a ≡ b → s.admitted ≡ s.consumed ++ layout S (pos K C) a
      → s.admitted ≡ s.consumed ++ layout S (pos K C) b
  regroup s C a b e l = rw (← e) l

  from_facts : (s : State S) (C E P : ℕ) (queue hidden : List S.Trb) → Facts s C E P queue hidden s.work
      → Doing S s.work s.producer E hidden (length s.consumed + length queue) s.before → Inv s
  from_facts s C E P queue hidden f d =
      record {
        C = C;
        E = E;
        P = P;
        queue = queue;
        hidden = hidden;
        good =
            subst⁻¹ (λ (c : Position). Good S s.ring s.producer c C E P queue hidden)
            (chosen s.live s.controller s.producer f.on) f.good;
        doing = d;
        awake = λ b. f.on;
        ledger = f.ledger;
        covered = f.covered;
        room = f.room;
      }

  module _ (some_slot : 0 < K) (s : State S) where
    -- the first TRB of a deferred TD
    store_first : (i : Inv s) (first : S.Trb) (rest : List S.Trb) (link : S.Trb) → s.work ≡ opening first rest link
        → Inv (store_as s s.producer (opening first rest link) true)
    store_first i first rest link e =
        let p : Position = s.producer in
        let d : Opens S first rest link p i.hidden (length s.consumed + length i.queue) s.before = doing_of s i e in
        let f : Facts s i.C i.E i.P i.queue [] (opening first rest link) = facts s i (opening first rest link) [] e d.none_hidden tt in
        let end : i.P ≡ i.E = omega (arith, f.good.stored_end) in
        from_facts (store_as s p (opening first rest link) true) i.C i.E (suc i.P) i.queue (first ∷ [])
        record {
          on = f.on;
          good =
              hide S some_slot s.ring s.controller i.C i.E i.P i.queue p f.good d.off_link first
              d.plain.0 (omega (arith, f.good.visible_end, f.good.stored_end, f.covered, f.room));
          ledger =
              regroup s i.C (i.queue ++ [] ++ first ∷ rest) (i.queue ++ first ∷ [] ++ rest) (one_hidden S i.queue rest first) f.ledger;
          covered = omega (arith, f.covered);
          room = f.room;
        }
        record {
          first = first;
          others = [];
          hidden_are = refl;
          again_is =
              ap (λ (q : Position). placed S q first)
              (producer_is S some_slot s.ring s.controller i.C i.E i.P i.queue p [] f.good d.off_link ∙ ap (pos K) end);
          plain = d.plain.1;
          is_link_lem = d.is_link_lem;
          marked = d.marked;
        }

    -- a TRB of a TD that is not deferred
    store_shown : (i : Inv s) (x : S.Trb) (xs : List S.Trb) (link : S.Trb) → s.work ≡ busy (x ∷ xs) link none
        → eqb s.producer.place K ≡ false → Inv (store_as s s.producer (busy (x ∷ xs) link none) false)
    store_shown i x xs link e off =
        let p : Position = s.producer in
        let w : Work S = leaves (advance p) xs link none in
        let d : Shows S (x ∷ xs) link p i.hidden = doing_of s i e in
        let f : Facts s i.C i.E i.P i.queue [] (busy (x ∷ xs) link none) = facts s i (busy (x ∷ xs) link none) [] e d.none_hidden tt in
        from_facts (store_as s p (busy (x ∷ xs) link none) false) i.C (suc i.E) (suc i.P) (i.queue ++ x ∷ []) []
        record {
          on = f.on;
          good =
              put_visible S some_slot s.ring s.controller i.C i.E i.P i.queue p f.good
              (eqb-false p.place K off) x d.plain.0 (omega (arith, f.good.visible_end, f.good.stored_end, f.covered, f.room));
          ledger =
              rw (pending_leaves S (advance p) xs link none)
              (regroup s i.C (i.queue ++ [] ++ x ∷ xs) (i.queue ++ x ∷ [] ++ [] ++ xs) (one_shown S i.queue xs x) f.ledger);
          covered = rw (pending_leaves S (advance p) xs link none) (omega (arith, f.covered, length-append i.queue (x ∷ [])));
          room = f.room;
        }
        (leaves_shows S (advance p) (suc i.E) [] (length s.consumed + length (i.queue ++ x ∷ []))
        s.before xs link refl d.plain.1 d.is_link_lem)

    -- a later TRB of a deferred TD
    store_hidden : (i : Inv s) (x : S.Trb) (xs : List S.Trb) (link : S.Trb) (again : Entry S)
        → s.work ≡ busy (x ∷ xs) link (some again) → eqb s.producer.place K ≡ false → Inv
        (store_as s s.producer (busy (x ∷ xs) link (some again)) false)
    store_hidden i x xs link again e off =
        let p : Position = s.producer in
        let d : Hides S (x ∷ xs) link again i.E i.hidden (length s.consumed + length i.queue) s.before = doing_of s i e in
        let f : Facts s i.C i.E i.P i.queue (d.first ∷ d.others) (busy (x ∷ xs) link (some again)) =
        facts s i (busy (x ∷ xs) link (some again)) (d.first ∷ d.others) e d.hidden_are tt in
        from_facts (store_as s p (busy (x ∷ xs) link (some again)) false) i.C i.E (suc i.P) i.queue (d.first ∷ (d.others ++ x ∷ []))
        record {
          on = f.on;
          good =
              put_hidden S some_slot s.ring s.controller i.C i.E i.P i.queue p d.first d.others
              f.good (eqb-false p.place K off) x d.plain.0 (omega (arith, f.good.visible_end, f.good.stored_end, f.covered, f.room));
          ledger =
              rw (pending_leaves S (advance p) xs link (some again))
              (regroup s i.C (i.queue ++ d.first ∷ d.others ++ x ∷ xs) (i.queue ++ d.first ∷ (d.others ++ x ∷ []) ++ xs) (one_more S i.queue d.others xs d.first x) f.ledger);
          covered = rw (pending_leaves S (advance p) xs link (some again)) (omega (arith, f.covered, length-append d.others (x ∷ [])));
          room = f.room;
        }
        (leaves_hides S (advance p) i.E (d.first ∷ (d.others ++ x ∷ [])) (length s.consumed + length i.queue) s.before xs link again
        record {
          first =
              d.first;
          others = d.others ++ x ∷ [];
          hidden_are = refl;
          again_is = d.again_is;
          plain = d.plain.1;
          is_link_lem = d.is_link_lem;
          marked = d.marked;
        })

    -- the first TRB of a deferred TD again
    store_again : (i : Inv s) (link : S.Trb) (again : Entry S) → s.work ≡ busy [] link (some again)
        → eqb s.producer.place K ≡ false → Inv (store_as s s.producer (busy [] link (some again)) false)
    store_again i link again e off =
        let p : Position = s.producer in
        let d : Hides S [] link again i.E i.hidden (length s.consumed + length i.queue) s.before = doing_of s i e in
        let hidden : List S.Trb = d.first ∷ d.others in
        let f : Facts s i.C i.E i.P i.queue hidden (busy [] link (some again)) =
        facts s i (busy [] link (some again)) hidden e d.hidden_are tt in
        from_facts (store_as s p (busy [] link (some again)) false) i.C i.P i.P (i.queue ++ hidden) []
        record {
          on = f.on;
          good =
              subst⁻¹ (λ (a : Entry S). Good S (S.write s.ring a.at a.trb) p s.controller i.C i.P i.P (i.queue ++ hidden) [])
              d.again_is (reveal S some_slot s.ring s.controller i.C i.E i.P i.queue p d.first d.others f.good);
          ledger = regroup s i.C (i.queue ++ hidden ++ []) (i.queue ++ hidden ++ [] ++ []) (all_shown S i.queue hidden) f.ledger;
          covered = omega (arith, f.covered, length-append i.queue hidden);
          room = f.room;
        }
        record { none_hidden = refl; off_link = eqb-false p.place K off }

    -- the link
    store_link : (i : Inv s) (rest : List S.Trb) (link : S.Trb) (again : Option (Entry S))
        → s.work ≡ busy rest link again → s.producer.place ≡ K → S.is_link link ≡ true
        → Doing S (leaves (around s.producer) rest link again) (around s.producer) i.E i.hidden
        (length s.consumed + length i.queue) s.before
        → Inv (store_as s s.producer (busy rest link again) true)
    store_link i rest link again e at-link is_link_lem doing =
        let p : Position = s.producer in
        let f : Facts s i.C i.E i.P i.queue i.hidden (busy rest link again) = facts s i (busy rest link again) i.hidden e refl tt in
        from_facts (store_as s p (busy rest link again) true) i.C i.E i.P i.queue i.hidden
        record {
          on = f.on;
          good = put_link S some_slot s.ring s.controller i.C i.E i.P i.queue p i.hidden f.good at-link link is_link_lem;
          ledger = rw (pending_leaves S (around p) rest link again) f.ledger;
          covered = rw (pending_leaves S (around p) rest link again) f.covered;
          room = f.room;
        }
        doing

    store_by : (i : Inv s) (w : Work S) (b : Bool) → s.work ≡ w → eqb s.producer.place K ≡ b → Inv (store_as s s.producer w b)
    store_by i idle b e k = i
    store_by i (opening first rest link) b e k = store_first i first rest link e
    store_by i (busy rest link none) true e k =
        let p : Position = s.producer in
        let d : Shows S rest link p i.hidden = doing_of s i e in
        store_link i rest link none e (eqb-true p.place K k) d.is_link_lem
        (leaves_shows S (around p) i.E i.hidden (length s.consumed + length i.queue) s.before rest link
        d.none_hidden d.plain d.is_link_lem)
    store_by i (busy rest link (some again)) true e k =
        let p : Position = s.producer in
        let d : Hides S rest link again i.E i.hidden (length s.consumed + length i.queue) s.before = doing_of s i e in
        store_link i rest link (some again) e (eqb-true p.place K k) d.is_link_lem
        (leaves_hides S (around p) i.E i.hidden (length s.consumed + length i.queue) s.before rest link again d)
    store_by i (busy (x ∷ xs) link none) false e k = store_shown i x xs link e k
    store_by i (busy (x ∷ xs) link (some again)) false e k = store_hidden i x xs link again e k
    store_by i (busy [] link (some again)) false e k = store_again i link again e k
    store_by i (busy [] link none) false e k = i

    pub store_keeps : Inv s → Inv (store s)
    unfolding store
    store_keeps i = store_by i s.work (eqb s.producer.place K) refl refl

-- ---- the controller's step

beq_same : (a b : Bool) → a ≡ b → beq a b ≡ true
beq_same a true e = rw e
beq_same a false e = rw e

beq_other : (a b : Bool) → a ≡ not b → beq a b ≡ false
beq_other a true e = rw e
beq_other a false e = rw e

module _ {K : ℕ} {S : Slots K} where
  -- what a step of a running controller comes to
  pub data Outcome (s : State S) (i : Inv s) : Type 0 where
    waited : step s ≡ s → i.queue ≡ [] → Outcome s i
    followed : step s ≡ moved s (around s.controller) s.consumed → s.controller.place ≡ K
        → S.is_link (S.read s.ring K) ≡ true → Outcome s i
    took : (x : S.Trb) (xs : List S.Trb) → step s ≡ moved s (advance s.controller) (s.consumed ++ placed S s.controller x ∷ [])
        → i.queue ≡ x ∷ xs → s.controller ≡ pos K i.C → Outcome s i

  stopped_step : (s : State S) → s.live ≡ false → step s ≡ s
  unfolding step
  stopped_step s off = rw off

  read_step : (s : State S) (same link : Bool) → s.live ≡ true
      → beq (S.cycle_of (S.read s.ring s.controller.place)) s.controller.cycle ≡ same
      → S.is_link (S.read s.ring s.controller.place) ≡ link → step s ≡ step_as s s.controller
      (S.read s.ring s.controller.place) same link
  unfolding step
  read_step s same link on e k = rw (on, e, k)

  module _ (some_slot : 0 < K) (s : State S) where
    pub running_good : (i : Inv s) → s.live ≡ true → Good S s.ring s.producer s.controller i.C i.E i.P i.queue i.hidden
    running_good i on =
        subst (λ (c : Position). Good S s.ring s.producer c i.C i.E i.P i.queue i.hidden)
        (chosen s.live s.controller s.producer on) i.good

    outcome_of : (i : Inv s) → s.live ≡ true → View S s.ring s.controller i.C i.queue → Outcome s i
    outcome_of i on (waits other none_left) = waited (read_step s false _ on (beq_other _ _ other) refl) none_left
    outcome_of i on (follows at-link same is_link_lem) =
        followed (read_step s true true on (beq_same _ _ same) is_link_lem) at-link
        (subst (λ (k : ℕ). S.is_link (S.read s.ring k) ≡ true) at-link is_link_lem)
    outcome_of i on (consumes x xs queue-is here read_is x-plain) =
        let c : Position = s.controller in
        took x xs
        (read_step s true false on (beq_same _ _ (ap S.cycle_of read_is ∙ S.cycle_with c.cycle x))
        (ap S.is_link read_is ∙ S.link_with c.cycle x ∙ x-plain)
        ∙ ap (λ (t : S.Trb). moved s (advance c) (s.consumed ++ record { at = c.place; trb = t } ∷ [])) read_is)
        queue-is
        here

    pub outcome : (i : Inv s) → s.live ≡ true → Outcome s i
    outcome i on =
        outcome_of i on (view S some_slot s.ring s.producer i.C i.E i.P i.hidden s.controller i.queue (running_good i on))

    follow_keeps : (i : Inv s) → s.live ≡ true → s.controller.place ≡ K → S.is_link (S.read s.ring K) ≡ true
        → Inv (moved s (around s.controller) s.consumed)
    follow_keeps i on at-link is_link_lem =
        record {
          C = i.C;
          E = i.E;
          P = i.P;
          queue = i.queue;
          hidden = i.hidden;
          good =
              subst⁻¹ (λ (c : Position). Good S s.ring s.producer c i.C i.E i.P i.queue i.hidden)
              (chosen s.live (around s.controller) s.producer on) (follow S some_slot s.ring s.producer i.C i.E i.P i.hidden s.controller i.queue (running_good i on) at-link is_link_lem);
          doing = i.doing;
          awake = i.awake;
          ledger = i.ledger;
          covered = i.covered;
          room = i.room;
        }

    consume_keeps : (i : Inv s) → s.live ≡ true → (x : S.Trb) (xs : List S.Trb) → i.queue ≡ x ∷ xs
        → s.controller ≡ pos K i.C → Inv (moved s (advance s.controller) (s.consumed ++ placed S s.controller x ∷ []))
    consume_keeps i on x xs queue-is here =
        let e : Entry S = placed S s.controller x in
        let g : Good S s.ring s.producer (pos K i.C) i.C i.E i.P (x ∷ xs) i.hidden =
        rw (here, queue-is) at (running_good i on) in
        record {
          C = suc i.C;
          E = i.E;
          P = i.P;
          queue = xs;
          hidden = i.hidden;
          good =
              subst⁻¹ (λ (c : Position). Good S s.ring s.producer c (suc i.C) i.E i.P xs i.hidden)
              (chosen s.live (advance s.controller) s.producer on ∙ ap advance here)
              (consume S some_slot s.ring s.producer i.C i.E i.P i.hidden x xs g);
          doing =
              subst (λ (n : ℕ). Doing S s.work s.producer i.E i.hidden n s.before)
              (omega (arith, length-append s.consumed (e ∷ []), ap length queue-is)) i.doing;
          awake = i.awake;
          ledger = rw (append_snoc, here) (rw queue-is at i.ledger);
          covered = omega (arith, i.covered, ap length queue-is);
          room = i.room;
        }

    outcome_keeps : (i : Inv s) → s.live ≡ true → Outcome s i → Inv (step s)
    outcome_keeps i on (waited e none_left) = subst⁻¹ Inv e i
    outcome_keeps i on (followed e at-link is_link_lem) = subst⁻¹ Inv e (follow_keeps i on at-link is_link_lem)
    outcome_keeps i on (took x xs e queue-is here) = subst⁻¹ Inv e (consume_keeps i on x xs queue-is here)

    step_by : (i : Inv s) (b : Bool) → s.live ≡ b → Inv (step s)
    step_by i false off = subst⁻¹ Inv (stopped_step s off) i
    step_by i true on = outcome_keeps i on (outcome i on)

    pub step_keeps : Inv s → Inv (step s)
    step_keeps i = step_by i s.live refl

-- ---- the other moves

pub starts_pending : {K : ℕ} {S : Slots K} (td : Td S) (b : Bool) → pending (starts td b) ≡ td.first ∷ td.rest
starts_pending td true = refl
starts_pending td false = refl

module _ {K : ℕ} {S : Slots K} (some_slot : 0 < K) where
  pub made_keeps : (r : S.Ring) → Zeroed S r → Inv (made S r)
  unfolding made
  made_keeps r z =
      record {
        C = 0;
        E = 0;
        P = 0;
        queue = [];
        hidden = [];
        good = at_first S some_slot r z;
        doing = record { none_hidden = refl; off_link = omega arith };
        awake = λ b. refl;
        ledger = refl;
        covered = omega arith;
        room = some_slot;
      }

  module _ (s : State S) (i : Inv s) where
    -- a state with no TD under way
    pub resting : s.work ≡ idle → Rests S s.producer i.hidden
    resting e = doing_of s i e

    -- how many TRBs are admitted and not consumed
    pub waiting : length s.admitted ≡ length s.consumed + (length i.queue + length i.hidden + length (pending s.work))
    waiting =
        rw i.ledger
        (simp (length-append, length_layout) refl)

    pub free_keeps : (n : ℕ) → MayFree s n → Inv (free s n)
    unfolding free
    free_keeps n may =
        record {
          C = i.C;
          E = i.E;
          P = i.P;
          queue = i.queue;
          hidden = i.hidden;
          good = i.good;
          doing = i.doing;
          awake = i.awake;
          ledger = i.ledger;
          covered = omega (arith, may.covers, waiting);
          room = omega (arith, i.room);
        }

    pub stop_keeps : s.work ≡ idle → Inv (stop s)
    unfolding stop
    stop_keeps e =
        let d : Rests S s.producer i.hidden = resting e in
        record {
          C = i.P;
          E = i.P;
          P = i.P;
          queue = [];
          hidden = [];
          good = cut S some_slot s.ring (head s) i.C i.E i.P i.queue s.producer (rw d.none_hidden at i.good);
          doing = rw e record { none_hidden = refl; off_link = d.off_link };
          awake = λ b. absurd (subst Busy e b);
          ledger = rw e (ap (take (length s.consumed)) i.ledger ∙ take-append_seam s.consumed _ ∙ sym (append-nil s.consumed));
          covered = rw e (omega arith);
          room = i.room;
        }

    pub resume_keeps : s.live ≡ false → Inv (resume s)
    unfolding resume
    resume_keeps off =
        record {
          C = i.C;
          E = i.E;
          P = i.P;
          queue = i.queue;
          hidden = i.hidden;
          good = rw off at i.good;
          doing = i.doing;
          awake = λ b. refl;
          ledger = i.ledger;
          covered = i.covered;
          room = i.room;
        }

    starts_doing : (td : Td S) → MayBegin s td → s.producer.place ≢ K → length s.consumed + length i.queue ≡ length s.admitted → (b : Bool)
        → Doing S (starts td b) s.producer i.E [] (length s.consumed + length i.queue) (length s.admitted)
    starts_doing td may off_link marked true =
        record { none_hidden = refl; off_link = off_link; plain = may.plain; is_link_lem = may.linked; marked = marked }
    starts_doing td may off_link marked false =
        record { none_hidden = refl; plain = may.plain; is_link_lem = may.linked; due = λ e. absurd (omega (arith, ap length e)) }

    pub begin_keeps : (td : Td S) → MayBegin s td → Inv (begin s td)
    unfolding begin
    begin_keeps td may =
        let d : Rests S s.producer i.hidden = resting may.none_under_way in
        let g : Good S s.ring s.producer (head s) i.C i.E i.P i.queue [] = rw d.none_hidden at i.good in
        let trbs : List S.Trb = td.first ∷ td.rest in
        let here : s.producer ≡ pos K i.P =
        producer_is S some_slot s.ring (head s) i.C i.E i.P i.queue s.producer [] g d.off_link in
        let ledger : s.admitted ≡ s.consumed ++ layout S (pos K i.C) i.queue =
        simp (may.none_under_way, d.none_hidden, append-nil) at i.ledger in
        let marked : length s.consumed + length i.queue ≡ length s.admitted =
        sym (ap length ledger ∙ simp (length-append, length_layout) refl) in
        let end : i.C + length i.queue ≡ i.P = omega (arith, g.visible_end, g.stored_end) in
        record {
          C = i.C;
          E = i.E;
          P = i.P;
          queue = i.queue;
          hidden = [];
          good = g;
          doing = starts_doing td may d.off_link marked td.deferred;
          awake = λ b. may.running;
          ledger =
              rw (starts_pending td td.deferred, append-nil i.queue, layout_append S i.C i.P i.queue trbs end, here, ledger)
              (append_assoc s.consumed (layout S (pos K i.C) i.queue) (layout S (pos K i.P) trbs));
          covered = rw (starts_pending td td.deferred) (omega (arith, i.covered));
          room = may.room;
        }

  -- ---- a run

  pub act_keeps : (s : State S) (i : Inv s) (m : Move S) → May s m → Inv (act s m)
  act_keeps s i (to_begin td) may = begin_keeps s i td may
  act_keeps s i to_store may = store_keeps some_slot s i
  act_keeps s i to_step may = step_keeps some_slot s i
  act_keeps s i (to_free n) may = free_keeps s i n may
  act_keeps s i to_stop may = stop_keeps s i may
  act_keeps s i to_resume may = resume_keeps s i may

  pub keeps : {s : State S} → Run s → Inv s
  keeps (Model.Run.at_first r z) = made_keeps r z
  keeps (Model.Run.and_then {s = s} r m may) = act_keeps s (keeps r) m may

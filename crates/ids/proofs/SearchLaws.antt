-- The search always ends within n steps, and at the first free id, whatever the n records hold.
-- The argument: `dist s x` is how many steps x is from the start s. Of the held records, `left` counts those whose id is not yet passed, that is
-- as far from s as x or farther. While x is held, by a record r, the step to the next id brings the distance up by 1, and r is passed, so that
-- `left` falls. So distance and `left` together stay at most n, as they are at the start. No list of the ids that were tried is kept.
-- Assumes nothing.
use mathlib.Core.Path.{◌≡◌, refl, sym, ap, ◌∙◌}
use mathlib.Core.Bool.{Bool, true, false}
use mathlib.Core.Logic.{⊎_elim}
use Prim.Native.Nat.{ℕ, zero, suc, ◌+◌, ◌-◌, ◌^◌, ◌≤◌, ◌<◌, min}
use native.Mathlib.Nat.{eq-or-lt_of_le, suc-add}
use native.Mathlib.Omega.{arith}
use borrow.Author.Tests.{lt-ltb, le-ltb}
use lib.Dec.{ltb}
use Rattle.base.specs.Fields.{flag}
use Rattle.base.specs.First.{pick}
use Rattle.base.proofs.Decide.{if_so}
use Rattle.mask.specs.Bit.{sum}
use Rattle.base.proofs.Compare.{lt_or_le}
use Rattle.mask.proofs.SumLaws.{sum_le, sum_one, sum_less}
use Rattle.ids.specs.Order.{after_id, after_n}
use Rattle.ids.specs.Free.{held_by, is_held, free_from, free_id, FirstFree}
use Rattle.ids.proofs.AnyLaws.{true_or_false, never_both, any_one, any_found, by_held, after_last, after_more}

-- ---- `free_from`, one step

pub stops : (held : ℕ → Bool) (n x : ℕ) → held x ≡ false → free_from held n x ≡ x
unfolding free_from
stops held zero x e = refl
stops held (suc n) x e = rw (e, free_from)

pub goes_on : (held : ℕ → Bool) (n x : ℕ) → held x ≡ true → free_from held (suc n) x ≡ free_from held n (after_id x)
unfolding free_from
goes_on held n x e = rw (e, free_from)

-- ---- distance

-- how many steps lead from s to x: x - s, or round the end where x is below s
pub dist : ℕ → ℕ → ℕ
dist s x = pick (ltb x s) (x + (2 ^ 64 - 1) - s) (x - s)

dist_below : (s x : ℕ) → x < s → dist s x ≡ x + (2 ^ 64 - 1) - s
unfolding dist
dist_below s x l = rw (lt-ltb x s l)

dist_above : (s x : ℕ) → s ≤ x → dist s x ≡ x - s
unfolding dist
dist_above s x l = rw (le-ltb x s l)

-- a step is one farther, until the start is met again
dist_after : (s x : ℕ) → 0 < s → s < 2 ^ 64 → 0 < x → x < 2 ^ 64 → dist s x < 2 ^ 64 - 2 → dist s (after_id x) ≡ dist s x + 1
dist_after s x hs gs hx gx far =
    ⊎_elim
    (λ (l : x < s).
    let e : after_id x ≡ x + 1 = after_more x (λ q. omega arith) in
    let d = dist_below s x l in
    let l2 : after_id x < s = omega arith in
    omega (arith, d, dist_below s (after_id x) l2))
    (λ (l : s ≤ x).
    let d = dist_above s x l in
    ⊎_elim
    (λ (q : x ≡ 2 ^ 64 - 1).
    let e = after_last x q in
    let l2 : after_id x < s = omega arith in
    omega (arith, dist_below s (after_id x) l2))
    (λ (q : x < 2 ^ 64 - 1).
    let e = after_more x (λ z. omega arith) in
    let l2 : s ≤ after_id x = omega arith in
    omega (arith, dist_above s (after_id x) l2))
    (eq-or-lt_of_le (omega arith)))
    (lt_or_le x s)

-- the next id is an id
after_id_lem : (x : ℕ) → x < 2 ^ 64 → (0 < after_id x) × (after_id x < 2 ^ 64)
after_id_lem x g =
    ⊎_elim
    (λ (q : x ≡ 2 ^ 64 - 1). omega (arith, after_last x q))
    (λ (q : x < 2 ^ 64 - 1). omega (arith, after_more x (λ z. omega arith)))
    (eq-or-lt_of_le (omega arith))

-- ---- the definition against the words of `FirstFree`

-- where the definition ends at a free id, it is the first one
first_of_lem : (held : ℕ → Bool) (n x : ℕ) → held (free_from held n x) ≡ false → FirstFree held x (free_from held n x)
unfolding free_from after_n
first_of_lem held zero x e = record { steps = 0; reached = refl; free = e; before = λ j l. absurd (omega arith) }
first_of_lem held (suc n) x e =
    ⊎_elim
    (λ (h : held x ≡ true).
    let q = goes_on held n x h in
    let i = first_of_lem held n (after_id x) (sym (ap held q) ∙ e) in
    record { steps = suc i.steps; reached = q ∙ i.reached; free = e; before = earlier h i.steps i.before })
    (λ (h : held x ≡ false). record { steps = 0; reached = stops held (suc n) x h; free = e; before = λ j l. absurd (omega arith) })
    (true_or_false (held x))
  where
    earlier : held x ≡ true → (k : ℕ) → ((j : ℕ) → j < k → held (after_n j (after_id x)) ≡ true) → (j : ℕ) → j < suc k → held (after_n j x) ≡ true
    earlier h k b zero l = h
    earlier h k b (suc j) l = b j (omega arith)

-- no other id is the first free one: the shorter way would end at an id that the longer way found held
not_shorter : (held : ℕ → Bool) (s a b : ℕ) (p : FirstFree held s a) (q : FirstFree held s b) → q.steps ≤ p.steps
not_shorter held s a b p q =
    ⊎_elim
    (λ (l : p.steps < q.steps).
    absurd (never_both (ap held p.reached ∙ q.before p.steps l) p.free))
    (λ (l : q.steps ≤ p.steps). l)
    (lt_or_le p.steps q.steps)

pub first_unique : (held : ℕ → Bool) (s a b : ℕ) → FirstFree held s a → FirstFree held s b → a ≡ b
first_unique held s a b p q =
    let e : p.steps ≡ q.steps = omega (arith, not_shorter held s a b p q, not_shorter held s b a q p) in
    p.reached ∙ ap (λ (k : ℕ). after_n k s) e ∙ sym q.reached

-- steps beyond those that are enough change nothing
pub more_steps : (held : ℕ → Bool) (n m x : ℕ) → held (free_from held n x) ≡ false → free_from held (n + m) x ≡ free_from held n x
unfolding free_from
more_steps held zero m x e = stops held (0 + m) x e
more_steps held (suc n) m x e =
    ⊎_elim
    (λ (h : held x ≡ true).
    let q = goes_on held n x h in
    rw (suc-add n m, goes_on held (n + m) x h, q) (more_steps held n m (after_id x) (sym (ap held q) ∙ e)))
    (λ (h : held x ≡ false). stops held (suc n + m) x h ∙ sym (stops held (suc n) x h))
    (true_or_false (held x))

-- ---- the search, from s, at the candidate x

module _ (n : ℕ) (f : ℕ → Bool) (ids : ℕ → ℕ) (s : ℕ) where
  -- 1 for a held record whose id is not yet passed at x
  pub waits : ℕ → ℕ → ℕ
  waits x r = min (flag (f r)) (1 - (dist s x - dist s (ids r)))

  -- how many of those there are
  pub left : ℕ → ℕ
  unfolding waits
  left x = sum n (waits x)

  left_le : (x : ℕ) → left x ≤ n
  unfolding left
  left_le x = sum_le n (waits x) (λ k l. omega arith)

  -- what holds whenever the outer loop tries x
  pub record Trying (x : ℕ) : Type 0 where
    pub positive : 0 < x
    pub small : x < 2 ^ 64
    pub room : dist s x + left x ≤ n
    pub same : free_id n f ids s ≡ free_from (is_held n f ids) (n - dist s x) x

  -- there are fewer records than ids, and s is an id
  module _ (few : n < 2 ^ 64 - 1) (hs : 0 < s) (gs : s < 2 ^ 64) where
    dist_start : dist s s ≡ 0
    dist_start = dist_above s s (omega arith) ∙ (omega arith)

    pub trying_start : Trying s
    unfolding free_id
    trying_start = record {
      positive = hs;
      small = gs;
      room = omega (arith, dist_start, left_le s);
      same = ap (λ (k : ℕ). free_from (is_held n f ids) k s) (omega (arith, dist_start));
    }

    -- the record that holds x is counted at x, and not at the next id
    module _ (x r : ℕ) (t : Trying x) (l : r < n) (u : f r ≡ true) (e : ids r ≡ x) where
      counted : waits x r ≡ 1
      unfolding waits
      counted = omega (arith, ap flag u, ap (dist s) e)

      some_left : 0 < left x
      unfolding left
      some_left = omega (arith, sum_one n r (waits x) l, counted)

      farther : dist s (after_id x) ≡ dist s x + 1
      farther = dist_after s x hs gs t.positive t.small (omega (arith, t.room, some_left))

      fewer : left (after_id x) < left x
      unfolding left waits
      fewer = sum_less n r (waits (after_id x)) (waits x) l (omega (arith, counted, farther, ap (dist s) e)) (λ k h. omega (arith, farther))

      one_less : n - dist s x ≡ suc (n - dist s (after_id x))
      one_less = omega (arith, farther, t.room, some_left)

      held : is_held n f ids x ≡ true
      held = any_one n r (held_by f ids x) l (if_so (by_held f ids x r) (u, e))

      -- the next id is tried, and one of the n steps is used
      pub trying_next : Trying (after_id x) × (n - dist s x ≡ suc (n - dist s (after_id x)))
      trying_next = (
        record {
          positive = (after_id_lem x t.small).0;
          small = (after_id_lem x t.small).1;
          room = omega (arith, farther, fewer, t.room);
          same = t.same ∙ ap (λ (k : ℕ). free_from (is_held n f ids) k x) one_less ∙ goes_on (is_held n f ids) (n - dist s (after_id x)) x held;
        },
        one_less,
      )

    -- a candidate that no record holds is the answer
    pub trying_done : (x : ℕ) → Trying x → is_held n f ids x ≡ false → x ≡ free_id n f ids s
    trying_done x t e = sym (t.same ∙ stops (is_held n f ids) (n - dist s x) x e)

    -- the same of a candidate for which the test says that it is held
    passed : (x : ℕ) → Trying x → is_held n f ids x ≡ true → Trying (after_id x) × (n - dist s x ≡ suc (n - dist s (after_id x)))
    passed x t h =
        let g = any_found n (held_by f ids x) h in
        let b = (by_held f ids x g.0).so g.2 in
        trying_next x g.0 t g.1 b.0 b.1

    settles : (k x : ℕ) → n - dist s x ≡ k → Trying x → is_held n f ids (free_from (is_held n f ids) k x) ≡ false
    settles zero x e t =
        ⊎_elim
        (λ (h : is_held n f ids x ≡ true). absurd (omega (arith, (passed x t h).1)))
        (λ (h : is_held n f ids x ≡ false). ap (is_held n f ids) (stops (is_held n f ids) zero x h) ∙ h)
        (true_or_false (is_held n f ids x))
    settles (suc k) x e t =
        ⊎_elim
        (λ (h : is_held n f ids x ≡ true).
        ap (is_held n f ids) (goes_on (is_held n f ids) k x h) ∙ settles k (after_id x) (omega (arith, (passed x t h).1)) (passed x t h).0)
        (λ (h : is_held n f ids x ≡ false). ap (is_held n f ids) (stops (is_held n f ids) (suc k) x h) ∙ h)
        (true_or_false (is_held n f ids x))

    -- n steps are enough: the answer is free
    pub answer_free : is_held n f ids (free_id n f ids s) ≡ false
    unfolding free_id
    answer_free = settles n s (omega (arith, dist_start)) trying_start

    -- so it is the id of no held record, in flight or stopped
    pub answer_other : (r : ℕ) → r < n → f r ≡ true → free_id n f ids s ≡ ids r → ⊥
    answer_other r l u e =
        never_both (any_one n r (held_by f ids (free_id n f ids s)) l (if_so (by_held f ids (free_id n f ids s) r) (u, sym e))) answer_free

    -- it is the first free id of the cyclic order
    pub answer_first : FirstFree (is_held n f ids) s (free_id n f ids s)
    unfolding free_id
    answer_first = first_of_lem (is_held n f ids) n s answer_free

    -- and more steps than n give no other
    pub answer_settled : (m : ℕ) → free_from (is_held n f ids) (n + m) s ≡ free_id n f ids s
    unfolding free_id
    answer_settled m = more_steps (is_held n f ids) n m s answer_free

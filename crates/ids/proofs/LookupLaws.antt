-- The lookup finds the lowest held record with an id, says `None` where there is none, and finds nothing for an id that the search gave.
-- Assumes nothing.
use Rattle.std.specs.Prelude.{Option, Some, None, MatchOption}
use mathlib.Core.Path.{◌≡◌, refl, sym, ap, ◌∙◌, subst}
use mathlib.Core.Bool.{Bool, true, false}
use mathlib.Core.Logic.{⊎_elim}
use Prim.Native.Nat.{ℕ, zero, suc, ◌+◌, ◌-◌, ◌^◌, ◌≤◌, ◌<◌}
use native.Mathlib.Nat.{eq-or-lt_of_le, le_of_suc-le-suc}
use native.Mathlib.Omega.{arith}
use Rattle.base.proofs.Compare.{lt_or_le}
use Rattle.ids.specs.Free.{held_by, is_held, free_id}
use Rattle.ids.specs.Lookup.{find_from, find_id, Lowest, Finds}
use Rattle.ids.proofs.AnyLaws.{true_or_false, never_both, any_false}
use Rattle.ids.proofs.SearchLaws.{answer_free}

-- ---- the property leaves no choice

lowest_le : (n : ℕ) (test : ℕ → Bool) (a b : ℕ) → Lowest n test a → Lowest n test b → a ≤ b
lowest_le n test a b p q =
    ⊎_elim (λ (l : b < a). absurd (never_both q.here (p.lower b l))) (λ (l : a ≤ b). l) (lt_or_le b a)

pub find_unique : (n : ℕ) (test : ℕ → Bool) (a b : Option ℕ) → Finds n test a → Finds n test b → a ≡ b
find_unique n test (Some a) (Some b) p q =
    let e : a ≡ b = omega (arith, lowest_le n test a b p q, lowest_le n test b a q p) in ap Some e
find_unique n test (Some a) None p q = absurd (never_both p.here (q a p.within))
find_unique n test None (Some b) p q = absurd (never_both q.here (p b q.within))
find_unique n test None None p q = refl

-- ---- the definition has it

here_found : (n : ℕ) (test : ℕ → Bool) (r : ℕ) → test r ≡ true → find_from (suc n) test r ≡ Some r
unfolding find_from
here_found n test r e = rw (e, find_from)

here_not : (n : ℕ) (test : ℕ → Bool) (r : ℕ) → test r ≡ false → find_from (suc n) test r ≡ find_from n test (suc r)
unfolding find_from
here_not n test r e = rw (e, find_from)

-- where none below r passes, and n records are to be looked at, the answer is right for r + n records
from : (n : ℕ) (test : ℕ → Bool) (r : ℕ) → ((k : ℕ) → k < r → test k ≡ false) → Finds (r + n) test (find_from n test r)
unfolding find_from
from zero test r below = λ k l. below k (omega arith)
from (suc n) test r below =
    ⊎_elim
    (λ (e : test r ≡ true). subst (Finds (r + suc n) test) (sym (here_found n test r e)) (record { within = omega arith; here = e; lower = below }))
    (λ (e : test r ≡ false).
    let s : suc r + n ≡ r + suc n = omega arith in
    subst (λ (m : ℕ). Finds m test (find_from (suc n) test r)) s
    (subst (Finds (suc r + n) test) (sym (here_not n test r e)) (from n test (suc r) (more e))))
    (true_or_false (test r))
  where
    more : test r ≡ false → (k : ℕ) → k < suc r → test k ≡ false
    more e k l = ⊎_elim (λ (q : k ≡ r). ap test q ∙ e) (λ (h : k < r). below k h) (eq-or-lt_of_le (le_of_suc-le-suc l))

module _ (n : ℕ) (f : ℕ → Bool) (ids : ℕ → ℕ) (x : ℕ) where
  pub find_finds : Finds n (held_by f ids x) (find_id n f ids x)
  unfolding find_id
  find_finds =
      let s : 0 + n ≡ n = omega arith in
      subst (λ (m : ℕ). Finds m (held_by f ids x) (find_from n (held_by f ids x) 0)) s (from n (held_by f ids x) 0 (λ k l. absurd (omega arith)))

  -- so what has the property is the definition's answer
  pub find_computed : (r : Option ℕ) → Finds n (held_by f ids x) r → r ≡ find_id n f ids x
  find_computed r p = find_unique n (held_by f ids x) r (find_id n f ids x) p find_finds

  -- the library's `find` over the numbers below n answers what the definition does
  pub find_over : (r : Option ℕ)
      → let test : ℕ → Bool = held_by f ids x in
      MatchOption r ((k : ℕ) → 0 ≤ k → k < n → test k ≡ false) (λ i. (0 ≤ i) × (i < n) × (test i ≡ true) × ((k : ℕ) → 0 ≤ k → k < i → test k ≡ false))
      → r ≡ find_id n f ids x
  find_over None h = find_computed None (λ k l. h k (omega arith) l)
  find_over (Some i) h = find_computed (Some i) (record { within = h.1; here = h.2; lower = λ k l. h.3 k (omega arith) l })

  -- an id that no record holds is not found
  pub find_none : is_held n f ids x ≡ false → find_id n f ids x ≡ None
  find_none e = sym (find_computed None (any_false n (held_by f ids x) e))

-- the id that a search gives is not found: it is new
pub find_new : (n : ℕ) (f : ℕ → Bool) (ids : ℕ → ℕ) (s : ℕ) → n < 2 ^ 64 - 1 → 0 < s → s < 2 ^ 64 → find_id n f ids (free_id n f ids s) ≡ None
find_new n f ids s few hs gs = find_none n f ids (free_id n f ids s) (answer_free n f ids s few hs gs)

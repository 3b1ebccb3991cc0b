-- `any` says whether some record passes a test, `held_by` whether a record is held with an id, and `after_id` which id comes next, each as facts
-- about numbers. Assumes nothing.
use mathlib.Core.List.{List}
use mathlib.Core.Path.{◌≡◌, refl, sym, ap, subst, ◌∙◌}
use mathlib.Core.Bool.{Bool, true, false, ◌||◌}
use mathlib.Core.Logic.{◌⊎◌, inl, inr, ⊎_elim}
use Prim.Native.Nat.{ℕ, zero, suc, ◌+◌, ◌-◌, ◌^◌, ◌<◌}
use native.Mathlib.Nat.{eq-or-lt_of_le, le_of_suc-le-suc}
use native.Mathlib.Omega.{arith}
use borrow.Author.Tests.{eq-eqb, ne_eqb}
use lib.ListN.{length}
use Rattle.std.proofs.Common.{zero-add}
use Rattle.std.proofs.lemmas.List.FromFn.{length-range_with_len, get_or-range_with_len}
use Rattle.std.specs.Bool.{MatchBool}
use Rattle.std.specs.List.{range_with_len, HoldsAt, AllWithin}
use Rattle.base.proofs.Decide.{Decides, both, by_eqb, by_true}
use Rattle.ids.specs.Order.{after_id}
use Rattle.ids.specs.Free.{any, held_by}

pub true_or_false : (b : Bool) → (b ≡ true) ⊎ (b ≡ false)
true_or_false true = inl refl
true_or_false false = inr refl

pub never_both : {b : Bool} → b ≡ true → b ≡ false → ⊥
never_both t f = let z : ◌≡◌ {A = ℕ} 0 1 = cc in omega arith

-- ---- `any`

-- none below n passes: the answer is no
pub any_none : (n : ℕ) (test : ℕ → Bool) → ((k : ℕ) → k < n → test k ≡ false) → any n test ≡ false
unfolding any
any_none zero test h = refl
any_none (suc n) test h = rw (h n (omega arith)) (any_none n test (λ k l. h k (omega arith)))

-- one below n passes: the answer is yes
pub any_one : (n r : ℕ) (test : ℕ → Bool) → r < n → test r ≡ true → any n test ≡ true
unfolding any
any_one zero r test l e = absurd (omega arith)
any_one (suc n) r test l e =
    ⊎_elim
    (λ (q : r ≡ n). ap (λ (b : Bool). b || any n test) (sym (ap test q) ∙ e))
    (λ (h : r < n). ap (λ (b : Bool). test n || b) (any_one n r test h e) ∙ or_true (test n))
    (eq-or-lt_of_le (le_of_suc-le-suc l))
  where
    or_true : (b : Bool) → (b || true) ≡ true
    or_true true = refl
    or_true false = refl

-- the answer yes has a record that passes
pub any_found : (n : ℕ) (test : ℕ → Bool) → any n test ≡ true → (r : ℕ) × (r < n) × (test r ≡ true)
unfolding any
any_found zero test e = absurd (never_both e refl)
any_found (suc n) test e =
    ⊎_elim
    (λ (t : test n ≡ true). (n, omega arith, t))
    (λ (t : test n ≡ false). let g = any_found n test (rw t at e) in (g.0, omega (arith, g.1), g.2))
    (true_or_false (test n))

-- the answer no has none
pub any_false : (n : ℕ) (test : ℕ → Bool) → any n test ≡ false → (k : ℕ) → k < n → test k ≡ false
any_false n test e k l =
    ⊎_elim (λ (t : test k ≡ true). absurd (never_both (any_one n k test l t) e)) (λ (t : test k ≡ false). t) (true_or_false (test k))

-- the library's `any` over the numbers below n answers what the definition does
pub any_over : (n : ℕ) (test : ℕ → Bool) (r : Bool)
    → let all : List ℕ = range_with_len 0 n in
    MatchBool r ((k : ℕ) × (k < length all) × HoldsAt (λ i. test i ≡ true) all k) (AllWithin (λ i. test i ≡ false) all 0 (length all)) → r ≡ any n test
any_over n test true h =
    let l : h.0 < n = omega (arith, h.1, length-range_with_len 0 n) in
    sym (any_one n h.0 test l (subst (λ (i : ℕ). test i ≡ true) (get_or-range_with_len 0 n h.0 0 l ∙ zero-add h.0) (h.2 0)))
any_over n test false h =
    sym (any_none n test (λ k l. subst (λ (i : ℕ). test i ≡ false) (get_or-range_with_len 0 n k 0 l ∙ zero-add k) (h k 0 (omega arith) (omega (arith, length-range_with_len 0 n)))))

-- ---- one record

pub by_held : (f : ℕ → Bool) (ids : ℕ → ℕ) (x r : ℕ) → Decides (held_by f ids x r) ((f r ≡ true) × (ids r ≡ x))
unfolding held_by
by_held f ids x r = both (by_true (f r)) (by_eqb (ids r) x)

-- ---- the next id

pub after_last : (x : ℕ) → x ≡ 2 ^ 64 - 1 → after_id x ≡ 1
after_last x e = rw (eq-eqb x (2 ^ 64 - 1) e)

pub after_more : (x : ℕ) → (x ≡ 2 ^ 64 - 1 → ⊥) → after_id x ≡ x + 1
after_more x n = rw (ne_eqb x (2 ^ 64 - 1) n)

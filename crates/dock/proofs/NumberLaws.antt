-- The refusal of a number has that number, for every number that stands beside a test (`row_number`); and what a verdict says of its number. Assumes
-- nothing.
use Rattle.std.specs.Prelude.{Result, Ok, Err, ⊤}
use Prim.Native.Nat.{ℕ}
use mathlib.Core.Bool.{Bool, true, false, ◌&&◌, and-eq-true_iff}
use mathlib.Core.List.{List, [], ◌∷◌}
use mathlib.Core.Logic.{⊎_elim}
use mathlib.Core.Path.{◌≡◌, refl, ◌∙◌}
use native.Mathlib.Omega.{arith}
use borrow.Author.Tests.{eqb-true, eq-eqb, ne_eqb}
use lib.Dec.{eqb}
use Rattle.base.specs.First.{pick, first}
use Rattle.base.proofs.Compare.{same_or_not}
use Rattle.dock.specs.declared.Refusal.{Refusal}
use Rattle.dock.specs.declared.Refusal.TheVariants.{Other}
use Rattle.dock.specs.Refusals.{number, refusal, done, verdict}

-- Every number of the tests is a refusal's.
abbrev pub rows : List (Bool × ℕ) → Bool
rows [] = true
rows (t ∷ ts) = eqb (number (refusal t.1)) t.1 && rows ts

one : (b : Bool) (n m : ℕ) → number (refusal n) ≡ n → ((m ≡ 0 → ⊥) → number (refusal m) ≡ m) → (pick b n m ≡ 0 → ⊥)
    → number (refusal (pick b n m)) ≡ pick b n m
one true n m here later d = here
one false n m here later d = later d

pub row_number : (ts : List (Bool × ℕ)) → rows ts ≡ true → (first ts ≡ 0 → ⊥) → number (refusal (first ts)) ≡ first ts
row_number [] all d = absurd (d refl)
row_number (t ∷ ts) all d =
    let parts = (and-eq-true_iff (eqb (number (refusal t.1)) t.1) (rows ts)).0 all in
    one t.0 t.1 (first ts) (eqb-true _ _ parts.0) (λ later. row_number ts parts.1 later) d

-- No number has `Other` for its refusal, whatever stands beside a test: it is one of the rows'.
abbrev pub is_row : Refusal → Bool
is_row (Other n) = false
is_row r = true

either_row : (b : Bool) (r s : Refusal) → is_row r ≡ true → is_row s ≡ true → is_row (pick b r s) ≡ true
either_row true r s here later = here
either_row false r s here later = later

pub refusal_is_row : (n : ℕ) → is_row (refusal n) ≡ true
refusal_is_row n =
    either_row (eqb n 1) _ _ refl
    (either_row (eqb n 2) _ _ refl
    (either_row (eqb n 3) _ _ refl
    (either_row (eqb n 4) _ _ refl
    (either_row (eqb n 5) _ _ refl
    (either_row (eqb n 6) _ _ refl
    (either_row (eqb n 10) _ _ refl
    (either_row (eqb n 11) _ _ refl
    (either_row (eqb n 12) _ _ refl refl))))))))

-- A verdict that refuses is of a number that is not 0, and gives its refusal;
pub declined : (n : ℕ) {why : Refusal} → ◌≡◌ {A = Result ⊤ Refusal} (Err why) (verdict n) → (n ≡ 0 → ⊥) × (why ≡ refusal n)
declined n {why} e =
    ⊎_elim
    (λ (z : n ≡ 0). absurd (never (e ∙ rw (eq-eqb n 0 z))))
    (λ (d : n ≡ 0 → ⊥). (d, refused_inj (e ∙ rw (ne_eqb n 0 d))))
    (same_or_not n 0)
  where
    never : ◌≡◌ {A = Result ⊤ Refusal} (Err why) done → ⊥
    never q = let z : ◌≡◌ {A = ℕ} 0 1 = cc in omega arith

    refused_inj : ◌≡◌ {A = Result ⊤ Refusal} (Err why) (Err (refusal n)) → why ≡ refusal n
    refused_inj q = cc

-- and one that does not is of 0.
pub passed : (n : ℕ) {u : ⊤} → ◌≡◌ {A = Result ⊤ Refusal} (Ok u) (verdict n) → n ≡ 0
passed n {u} e =
    ⊎_elim
    (λ (z : n ≡ 0). z)
    (λ (d : n ≡ 0 → ⊥). absurd (never (e ∙ rw (ne_eqb n 0 d))))
    (same_or_not n 0)
  where
    never : ◌≡◌ {A = Result ⊤ Refusal} (Ok u) (Err (refusal n)) → ⊥
    never q = let z : ◌≡◌ {A = ℕ} 0 1 = cc in omega arith

-- A row that is passed: its test does not hold.
pub unrefused : (test : Bool) (why : Refusal) {u : ⊤} → ◌≡◌ {A = Result ⊤ Refusal} (Ok u) (pick test (Err why) done) → test ≡ false
unrefused false why e = refl
unrefused true why {u} e = let z : ◌≡◌ {A = ℕ} 0 1 = cc in absurd (omega arith)

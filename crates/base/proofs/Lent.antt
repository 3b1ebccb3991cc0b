-- Laws of a block of a list, over its width: a block that was lent and came back, a block that was stored number by number, and what is
-- read in the list afterwards. Assumes nothing.
use Prim.Native.Nat.{ℕ, suc, ◌+◌, ◌-◌, ◌*◌, ◌<◌, ◌≤◌, min}
use mathlib.Core.Bool.{Bool}
use mathlib.Core.List.{List, [], ◌++◌, append-nil, append_assoc}
use mathlib.Core.Logic.{⊎_elim}
use mathlib.Core.Path.{◌≡◌, sym, ap, ◌∙◌}
use native.Mathlib.Nat.{mul-le-mul_left, mul-suc}
use native.Mathlib.Omega.{arith}
use borrow.Author.Tests.{eq-eqb}
use lib.ListN.{length, get_or, take, drop, length-append, length-take, length-drop, get_or-append, drop_of_length-le}
use lib.Seq.{sets, sets-eq, length-take-le, drop-drop, get_or-take, get_or-drop, get_or-append-add, ext_get_or}
use Rattle.base.specs.Part.{filled, block_of, put}
use Rattle.base.proofs.Compare.{compared}

-- Stores of as many numbers as the list has, from its start on, leave those numbers.
pub all_stored : (new l : List ℕ) → length l ≡ length new → sets l 0 new ≡ new
all_stored new l h =
    let room : 0 + length new ≤ length l = omega arith in
    let none : drop (0 + length new) l ≡ [] = drop_of_length-le l {i = 0 + length new} (omega arith) in
    sets-eq new l 0 room ∙ ap (λ (r : List ℕ). new ++ r) none ∙ append-nil new

module _ (wide : ℕ) (l : List ℕ) (block : ℕ) (new : List ℕ) (size : length new ≡ wide) (fits : wide * block + wide ≤ length l) where
  -- The block was stored, number by number.
  pub stored : sets l (wide * block) new ≡ put wide l block new
  unfolding put
  stored =
      let room : wide * block + length new ≤ length l = omega arith in
      sets-eq new l (wide * block) room
      ∙ ap (λ (n : ℕ). take (wide * block) l ++ new ++ drop (wide * block + n) l) size
      ∙ append_assoc (take (wide * block) l) new (drop (wide * block + wide) l)
      ∙ ap (λ (r : List ℕ). take (wide * block) l ++ (new ++ r)) (sym (drop-drop wide (wide * block) l))

  -- The list keeps its length.
  pub put_length : length (put wide l block new) ≡ length l
  unfolding put
  put_length = simp (length-append, length-take, length-drop, size) (omega arith)

  front_length : length (take (wide * block) l) ≡ wide * block
  front_length = length-take-le (wide * block) l (omega arith)

  -- In the block stand the new numbers.
  pub put_same : (k : ℕ) → k < wide → get_or (put wide l block new) (wide * block + k) 0 ≡ get_or new k 0
  unfolding put
  put_same k h =
      let rest = new ++ drop wide (drop (wide * block) l) in
      let at : wide * block + k ≡ length (take (wide * block) l) + k = omega (arith, front_length) in
      ap (λ (n : ℕ). get_or (take (wide * block) l ++ rest) n 0) at
      ∙ get_or-append-add (take (wide * block) l) rest k 0
      ∙ get_or-append new (drop wide (drop (wide * block) l)) 0 k (omega arith)

  -- Before the block nothing changes.
  pub put_before : (i : ℕ) → i < wide * block → get_or (put wide l block new) i 0 ≡ get_or l i 0
  unfolding put
  put_before i h =
      get_or-append (take (wide * block) l) (new ++ drop wide (drop (wide * block) l)) 0 i (omega (arith, front_length))
      ∙ get_or-take (wide * block) l i 0 h

  -- Behind it neither.
  pub put_behind : (i : ℕ) → wide * block + wide ≤ i → get_or (put wide l block new) i 0 ≡ get_or l i 0
  unfolding put
  put_behind i h =
      let j = i - (wide * block + wide) in
      let tail = drop wide (drop (wide * block) l) in
      let at : i ≡ length (take (wide * block) l) + (length new + j) = omega (arith, front_length) in
      let back : wide * block + (wide + j) ≡ i = omega arith in
      ap (λ (n : ℕ). get_or (take (wide * block) l ++ (new ++ tail)) n 0) at
      ∙ get_or-append-add (take (wide * block) l) (new ++ tail) (length new + j) 0
      ∙ get_or-append-add new tail j 0
      ∙ get_or-drop wide (drop (wide * block) l) j 0
      ∙ get_or-drop (wide * block) l (wide + j) 0
      ∙ ap (λ (n : ℕ). get_or l n 0) back

-- Blocks lie one behind the other.
apart : (wide a b : ℕ) → a < b → wide * a + wide ≤ wide * b
apart wide a b h = let up : wide * suc a ≤ wide * b = mul-le-mul_left wide h in let more : wide * suc a ≡ wide * a + wide = mul-suc wide a in omega arith

-- A number of a block.
pub block_at : (wide : ℕ) (l : List ℕ) (block k : ℕ) → k < wide → get_or (block_of wide l block) k 0 ≡ get_or l (wide * block + k) 0
unfolding block_of
block_at wide l block k h = get_or-take wide (drop (wide * block) l) k 0 h ∙ get_or-drop (wide * block) l k 0

block_length : (wide : ℕ) (l : List ℕ) (block : ℕ) → length (block_of wide l block) ≡ min wide (length l - wide * block)
unfolding block_of
block_length wide l block = simp (length-take, length-drop)

module _ (wide : ℕ) (l : List ℕ) (block : ℕ) (new : List ℕ) (size : length new ≡ wide) (fits : wide * block + wide ≤ length l) where
  -- The block that was put is read back,
  pub block_same : block_of wide (put wide l block new) block ≡ new
  block_same =
      let after = put wide l block new in
      let kept = put_length wide l block new size fits in
      let long : length (block_of wide after block) ≡ length new = omega (arith, block_length wide after block) in
      ext_get_or 0 (block_of wide after block) new long
      (λ k h. let less : k < wide = omega arith in block_at wide after block k less ∙ put_same wide l block new size fits k less)

  -- and every other block is as it was.
  pub block_other : (other : ℕ) → (other ≡ block → ⊥) → block_of wide (put wide l block new) other ≡ block_of wide l other
  block_other other differs =
      let after = put wide l block new in
      let kept = put_length wide l block new size fits in
      let long : length (block_of wide after other) ≡ length (block_of wide l other) = omega (arith, block_length wide after other, block_length wide l other) in
      ext_get_or 0 (block_of wide after other) (block_of wide l other) long
      (λ k h.
      let less : k < wide = omega (arith, block_length wide after other) in
      let at = wide * other + k in
      let same : get_or after at 0 ≡ get_or l at 0 =
      ⊎_elim
      (λ (e : other ≡ block). absurd (differs e))
      (⊎_elim
      (λ (b : other < block). put_before wide l block new size fits at (omega (arith, apart wide other block b)))
      (λ (b : block < other). put_behind wide l block new size fits at (omega (arith, apart wide block other b))))
      (compared other block) in
      block_at wide after other k less ∙ same ∙ sym (block_at wide l other k less))

-- The part `l[start..start + wide]` was lent, with start = wide * block, and came back as `filled` says. `start + wide - start` stands as the
-- code computes the part's length.
pub lent : (wide : ℕ) (l : List ℕ) (block : ℕ) (new : List ℕ) {part : List ℕ} {r : Bool} → wide * block + wide ≤ length l
    → ◌≡◌ {A = Bool × List ℕ} (r, part) (filled wide (take (wide * block + wide - wide * block) (drop (wide * block) l)) new)
    → take (wide * block) l ++ (part ++ drop (wide * block + wide - wide * block) (drop (wide * block) l)) ≡ put wide l block new
unfolding filled put
lent wide l block new {part} h f =
    let a = wide * block in
    let e : a + wide - a ≡ wide = omega arith in
    let size : length (take (a + wide - a) (drop a l)) ≡ wide = rw e (length-take-le wide (drop a l) (simp length-drop (omega arith))) in
    let same : part ≡ new = ap (λ (x : Bool × List ℕ). x.1) (simp (eq-eqb _ _ size) at f) in
    rw (e, same)

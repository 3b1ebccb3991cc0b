-- A list into which another was copied: within the copy stand the copied numbers, and every other number is as it was. Assumes nothing.
use Prim.Native.Nat.{ℕ, ◌+◌, ◌-◌, ◌<◌, ◌≤◌}
use mathlib.Core.List.{List, ◌++◌}
use mathlib.Core.Path.{◌≡◌, sym, ap, ◌∙◌}
use native.Mathlib.Omega.{arith}
use lib.ListN.{length, get_or, take, drop, get_or-append}
use lib.Seq.{paste, length-take-le, take-length, length_paste_head, get_or-take, get_or-drop, get_or-append-add}

module _ (l : List ℕ) (at : ℕ) (new : List ℕ) (fits : at + length new ≤ length l) where
  copied : List ℕ
  copied = take at l ++ take (length new) new

  copied_length : length copied ≡ at + length new
  unfolding copied
  copied_length = length_paste_head l at new (length new) (omega arith) (omega arith)

  front : length (take at l) ≡ at
  front = length-take-le at l (omega arith)

  -- Within the copy.
  pub pasted_same : (k : ℕ) → k < length new → get_or (paste l at new (length new)) (at + k) 0 ≡ get_or new k 0
  unfolding copied
  pasted_same k h =
      get_or-append copied (drop (at + length new) l) 0 (at + k) (omega (arith, copied_length))
      ∙ ap (λ (n : ℕ). get_or copied (n + k) 0) (sym front)
      ∙ get_or-append-add (take at l) (take (length new) new) k 0
      ∙ ap (λ (s : List ℕ). get_or s k 0) (take-length new)

  -- Before it.
  pub pasted_before : (i : ℕ) → i < at → get_or (paste l at new (length new)) i 0 ≡ get_or l i 0
  unfolding copied
  pasted_before i h =
      get_or-append copied (drop (at + length new) l) 0 i (omega (arith, copied_length))
      ∙ get_or-append (take at l) (take (length new) new) 0 i (omega (arith, front))
      ∙ get_or-take at l i 0 h

  -- Behind it.
  pub pasted_behind : (i : ℕ) → at + length new ≤ i → get_or (paste l at new (length new)) i 0 ≡ get_or l i 0
  unfolding copied
  pasted_behind i h =
      let j = i - (at + length new) in
      let there : i ≡ length copied + j = omega (arith, copied_length) in
      let back : at + length new + j ≡ i = omega arith in
      ap (λ (n : ℕ). get_or (paste l at new (length new)) n 0) there
      ∙ get_or-append-add copied (drop (at + length new) l) j 0
      ∙ get_or-drop (at + length new) l j 0
      ∙ ap (λ (n : ℕ). get_or l n 0) back

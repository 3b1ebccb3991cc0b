-- The packets' stores, as the loop makes them. Assumes nothing.
use Rattle.std.proofs.Common.{◌≡◌, ℕ, suc, ◌+◌, ◌-◌, ◌<◌, ◌≤◌, Bool, not, eqb, List, length, get_or, ap, ◌∙◌, arith}
use Rattle.dock.specs.declared.Periodic.{Periodic}
use Rattle.dock.specs.declared.Shape.{Shape}
use Rattle.isoch.specs.declared.Pen.{Pen}
use Rattle.isoch.specs.Packed.{packet_put, packets_put}

module _ (shape : Shape) (s : Periodic) (incoming : Bool) (sizes : List ℕ) where
  -- What is left of the packets, from packet i on.
  abbrev pub left_from : ℕ → Pen → List ℕ → List ℕ → Pen × List ℕ × List ℕ
  left_from i pen ring finished = packets_put (length sizes - i) i shape s incoming sizes pen ring finished

  pub packet_next : (i : ℕ) (pen : Pen) (ring finished : List ℕ) {d : Pen × List ℕ × List ℕ} → i < length sizes
      → d ≡ packet_put shape s incoming (get_or sizes i 0) (not (eqb (i + 1) (length sizes))) pen ring finished
      → left_from (i + 1) d.0 d.1 d.2 ≡ left_from i pen ring finished
  unfolding packets_put
  packet_next i pen ring finished {d} below put =
      ap (λ (x : Pen × List ℕ × List ℕ). left_from (i + 1) x.0 x.1 x.2) put
      ∙ ap (λ (n : ℕ). packets_put n i shape s incoming sizes pen ring finished) one_less
    where
      one_less : suc (length sizes - (i + 1)) ≡ length sizes - i
      one_less = omega arith

  pub packets_done : (i : ℕ) (pen : Pen) (ring finished : List ℕ) → length sizes ≤ i
      → ◌≡◌ {A = Pen × List ℕ × List ℕ} (pen, ring, finished) (left_from i pen ring finished)
  unfolding packets_put
  packets_done i pen ring finished past =
      ap (λ (n : ℕ). packets_put n i shape s incoming sizes pen ring finished) none
    where
      none : 0 ≡ length sizes - i
      none = omega arith

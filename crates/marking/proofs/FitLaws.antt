-- When a block fits, as facts on numbers. Assumes nothing.
use Prim.Native.Nat.{ℕ, ◌+◌, ◌*◌, ◌≤◌, ◌<◌}
use mathlib.Core.Path.{◌≡◌}
use Rattle.base.proofs.Decide.{Decides, by_leb, by_ltb, by_eqb, both, reworded}
use Rattle.sizes.specs.Sizes.{most_slots}
use Rattle.marking.specs.Marking.{fitting}
use Rattle.marking.specs.declared.Block.{Block}

pub record Fits (packets finished : ℕ) (b : Block) : Type 0 where
  pub most : b.slots ≤ most_slots
  pub place : b.place + 1 < b.slots
  pub table : finished ≡ 4 * b.slots
  pub within : b.first + b.count ≤ packets

pub by_fitting : (packets finished : ℕ) (b : Block) → Decides (fitting packets finished b) (Fits packets finished b)
unfolding fitting
by_fitting packets finished b =
    reworded
    (λ k. record { most = k.0.0.0; place = k.0.0.1; table = k.0.1; within = k.1 })
    (λ k. (((k.most, k.place), k.table), k.within))
    (both (both (both (by_leb b.slots most_slots) (by_ltb (b.place + 1) b.slots)) (by_eqb finished (4 * b.slots))) (by_leb (b.first + b.count) packets))

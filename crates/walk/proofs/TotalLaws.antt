-- The total goes one packet on, and what is counted of a packet has 31 bits. Assumes nothing.
use Prim.Native.Nat.{ℕ, ◌+◌, ◌^◌, ◌<◌}
use mathlib.Core.List.{List}
use mathlib.Core.Path.{◌≡◌, refl}
use native.Mathlib.Nat.{mod-lt}
use native.Mathlib.Numerals.{add-one}
use native.Mathlib.Omega.{arith}
use Rattle.packets.specs.Packets.{packet_at}
use Rattle.dock.specs.Reclaim.{total}

-- What is counted of a packet has 31 bits.
pub actual_small : (l : List ℕ) (r k : ℕ) → (packet_at l r k).actual < 2 ^ 31
unfolding packet_at
actual_small l r k = mod-lt _ {m = 2 ^ 31} (omega arith)

pub total_none : (l : List ℕ) (number : ℕ) → 0 ≡ total 0 l number
unfolding total
total_none l number = refl

pub total_more : (k : ℕ) (l : List ℕ) (number : ℕ) → total k l number + (packet_at l number k).actual ≡ total (k + 1) l number
unfolding total
total_more k l number = rw (add-one k) refl

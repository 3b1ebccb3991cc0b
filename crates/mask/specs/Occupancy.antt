-- Which records are held. What lies behind `held`, `lowest`, `taken` and `freed` is one mask.
use Rattle.std.specs.Prelude.{◌≡◌, Bool, true, false, ℕ, ◌^◌, ◌<◌, eqb, Option, Some, None}
use Rattle.sizes.specs.Sizes.{record_count}
use Rattle.mask.specs.Bit.{bit}
use Rattle.mask.specs.Compute.{clear_from, lowest_clear, set_bit, clear_bit}
use Rattle.mask.specs.declared.Occupancy.{Occupancy}

-- ---- what the functions answer; to unfold one of these is to compute with it

-- No record is held.
abbrev pub none : Occupancy
none = record { bits = 0 }

-- Is record i held?
unfoldable pub held : Occupancy → ℕ → Bool
unfolding bit
held o i = eqb (bit o.bits i) 1

-- The record that is taken next: "the lowest clear bit is taken".
unfoldable pub lowest : Occupancy → Option ℕ
unfolding bit clear_from lowest_clear
lowest o = lowest_clear o.bits

-- Record i is taken,
unfoldable pub taken : Occupancy → ℕ → Occupancy
unfolding bit set_bit
taken o i = record { bits = set_bit o.bits i }

-- and freed.
unfoldable pub freed : Occupancy → ℕ → Occupancy
unfolding bit clear_bit
freed o i = record { bits = clear_bit o.bits i }

-- ---- what that means

-- The mask is one of 64 bits.
pub record Sized (o : Occupancy) : Type 0 where
  pub bits : o.bits < 2 ^ 64

-- Of record i p says v, and of every other record what o says.
pub record HeldIs (o : Occupancy) (i : ℕ) (v : Bool) (p : Occupancy) : Type 0 where
  pub here : held p i ≡ v
  pub others : (k : ℕ) → (k ≡ i → ⊥) → held p k ≡ held o k

-- Record i is free, and every lower one is held.
pub record LowestFree (o : Occupancy) (i : ℕ) : Type 0 where
  pub within : i < record_count
  pub free : held o i ≡ false
  pub lower : (k : ℕ) → k < i → held o k ≡ true

-- The answer `Some i` says that i is the lowest free record, and `None` that all are held.
abbrev pub Tells : Occupancy → Option ℕ → Type 0
Tells o (Some i) = LowestFree o i
Tells o None = (k : ℕ) → k < record_count → held o k ≡ true

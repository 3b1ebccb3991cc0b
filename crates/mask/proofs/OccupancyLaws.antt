-- Taking and freeing a record change what is held of that record only, the record to take next is the lowest free one, and the mask stays one
-- of 64 bits: all that a user of an occupancy needs, in the words of `held`. Assumes nothing.
use Rattle.std.specs.Prelude.{Option, Some, None}
use mathlib.Core.Path.{◌≡◌, ap}
use mathlib.Core.Bool.{true, false}
use Prim.Native.Nat.{ℕ, ◌<◌}
use native.Mathlib.Omega.{arith}
use borrow.Author.Tests.{eq-eqb, ne_eqb}
use lib.Dec.{eqb}
use Rattle.sizes.specs.Sizes.{record_count}
use Rattle.mask.specs.Bit.{bit}
use Rattle.mask.specs.Clear.{Answers}
use Rattle.mask.specs.Compute.{lowest_clear}
use Rattle.mask.specs.Occupancy.{none, held, lowest, taken, freed, Sized, HeldIs, Tells}
use Rattle.mask.specs.declared.Occupancy.{Occupancy}
use Rattle.mask.proofs.BitLaws.{bit_none}
use Rattle.mask.proofs.ComputeLaws.{lowest_answers, set_is, set_lt, clear_is, clear_lt}

-- ---- a record by its bit

bit_held : (o : Occupancy) (k : ℕ) → bit o.bits k ≡ 1 → held o k ≡ true
unfolding held
bit_held o k e = eq-eqb (bit o.bits k) 1 e

bit_free : (o : Occupancy) (k : ℕ) → bit o.bits k ≡ 0 → held o k ≡ false
unfolding held
bit_free o k e = ne_eqb (bit o.bits k) 1 (λ h. omega arith)

-- ---- none is held

pub none_free : (k : ℕ) → held none k ≡ false
none_free k = bit_free none k (bit_none k)

pub none_sized : Sized none
none_sized = record { bits = omega arith }

-- ---- a record is taken

module _ (o : Occupancy) (i : ℕ) (within : i < record_count) where
  pub taken_is : HeldIs o i true (taken o i)
  unfolding held taken
  taken_is = record {
    here = bit_held (taken o i) i (set_is o.bits i).here;
    others = λ k d. ap (λ (b : ℕ). eqb b 1) ((set_is o.bits i).others k d);
  }

  pub taken_sized : Sized o → Sized (taken o i)
  unfolding taken
  taken_sized s = record { bits = set_lt 64 o.bits i within s.bits }

  -- ---- a record is freed

  pub freed_is : HeldIs o i false (freed o i)
  unfolding held freed
  freed_is = record {
    here = bit_free (freed o i) i (clear_is o.bits i).here;
    others = λ k d. ap (λ (b : ℕ). eqb b 1) ((clear_is o.bits i).others k d);
  }

  pub freed_sized : Sized o → Sized (freed o i)
  unfolding freed
  freed_sized s = record { bits = clear_lt 64 o.bits i s.bits }

-- ---- the lowest free record

told : (o : Occupancy) (f : Option ℕ) → Answers record_count (bit o.bits) f → Tells o f
told o (Some i) a = record { within = a.within; free = bit_free o i a.clear; lower = λ k l. bit_held o k (a.lower k l) }
told o None a = λ k l. bit_held o k (a k l)

pub lowest_tells : (o : Occupancy) → Tells o (lowest o)
unfolding lowest
lowest_tells o = told o (lowest_clear o.bits) (lowest_answers o.bits)

-- What is recorded of a data event is its length. Assumes nothing.
use Rattle.std.specs.Prelude.{Some}
use Prim.Native.Nat.{ℕ, ◌+◌, ◌-◌, ◌%◌, ◌^◌, ◌<◌}
use mathlib.Core.Logic.{⊎_elim}
use mathlib.Core.Path.{◌≡◌}
use native.Mathlib.Omega.{arith}
use borrow.Author.Tests.{eq-eqb, ne_eqb}
use lib.Dec.{eqb}
use Rattle.base.specs.First.{pick}
use Rattle.base.proofs.Compare.{same_or_not}
use Rattle.records.specs.declared.Record.{Record}
use Rattle.trb.specs.declared.Words.{Words}
use Rattle.dock.specs.Reclaim.{recorded_by, recorded_length, remaining_of}
use Rattle.dock.specs.Worth.{moved_bytes}

-- What a data event records is read back as the length that it moved, for every length that a word holds.
pub recorded_reads : (w : Words) (v : Record) → v.length < 2 ^ 64
    → recorded_length v (recorded_by (Some w) v) ≡ moved_bytes v.length (remaining_of w)
recorded_reads w v fits = reads (v.length - remaining_of w) (omega arith) (λ h. omega arith)
  where
    reads : (n : ℕ) → n < 2 ^ 64 → (n ≡ 2 ^ 64 - 1 → v.length ≡ n)
        → pick (eqb ((n + 1) % 2 ^ 64) 0) v.length ((n + 1) % 2 ^ 64 - 1) ≡ n
    reads n small whole =
        ⊎_elim
        (λ (h : n ≡ 2 ^ 64 - 1). rw (eq-eqb ((n + 1) % 2 ^ 64) 0 (omega arith)) (whole h))
        (λ (h : n ≡ 2 ^ 64 - 1 → ⊥).
        let less : n + 1 < 2 ^ 64 = ⊎_elim (λ (q : n ≡ 2 ^ 64 - 1). absurd (h q)) (λ (q : n ≡ 2 ^ 64 - 1 → ⊥). omega arith) (same_or_not n (2 ^ 64 - 1)) in
        rw (ne_eqb ((n + 1) % 2 ^ 64) 0 (λ z. omega arith)) (omega arith))
        (same_or_not n (2 ^ 64 - 1))

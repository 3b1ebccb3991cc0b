-- The cyclic order of the ids 1 to 2 ^ 64 - 1.
use Rattle.std.specs.Prelude.{ℕ, zero, suc, ◌+◌, ◌-◌, ◌^◌, eqb}
use Rattle.base.specs.First.{pick}

-- The id after x: 1 after the largest.
abbrev pub after_id : ℕ → ℕ
after_id x = pick (eqb x (2 ^ 64 - 1)) 1 (x + 1)

-- The k-th id after x.
unfoldable pub after_n : ℕ → ℕ → ℕ
after_n zero x = x
after_n (suc k) x = after_n k (after_id x)

-- The burst count and the last-burst count of an Isoch TRB. Document 01, "Words of a TRB", Burst; the standard, 4.11.2.3.
use Rattle.std.specs.Prelude.{ℕ, ◌+◌, ◌-◌, ◌/◌, ◌%◌, min, max, eqb}
use Rattle.base.specs.First.{pick}
use Rattle.bursts.specs.declared.Bursts.{Bursts}

-- n / d rounded up.
abbrev pub ceiling : ℕ → ℕ → ℕ
ceiling n d = pick (eqb (n % d) 0) (n / d) (n / d + 1)

-- P: the packets of a length, 1 at least, and 1 if the max packet size is 0.
unfoldable pub packets_of : ℕ → ℕ → ℕ
packets_of length packet = pick (eqb packet 0) 1 (max 1 (ceiling length packet))

-- P mod B, or B if that is 0.
abbrev pub last_burst : ℕ → ℕ → ℕ
last_burst packets each = pick (eqb (packets % each) 0) each (packets % each)

-- B is burst + 1. Burst count: min(31, ceil(P / B) - 1). Last-burst count: min(15, (P mod B or B if 0) - 1).
unfoldable pub bursts_of : ℕ → ℕ → ℕ → Bursts
bursts_of length packet burst =
    record {
      count = min 31 (ceiling (packets_of length packet) (burst + 1) - 1);
      last = min 15 (last_burst (packets_of length packet) (burst + 1) - 1);
    }

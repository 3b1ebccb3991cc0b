-- What the tests of a call have shown, as facts on numbers, for the code behind them: of a ring of so many slots, a table of four words a slot, a place and
-- a record's number.
use Rattle.std.specs.Prelude.{ℕ, ◌+◌, ◌≤◌, ◌<◌, ◌≡◌}
use Rattle.sizes.specs.Sizes.{fewest_slots, most_slots, ring_size, record_count}

-- The slots are within their limits, the table is that of the ring, the place one of the slots 0 to L-2, and the record one of the table's.
pub record Shown (slots words at number : ℕ) : Type 0 where
  pub least : fewest_slots ≤ slots
  pub most : slots ≤ most_slots
  pub table : words ≡ ring_size slots
  pub place : at + 1 < slots
  pub held : number < record_count

-- The bytes that a transfer event tells of, as the standard has it: xHCI 1.2, 6.4.2.1 (the field TRB Transfer Length), 4.10.1.1 (short transfers),
-- 4.6.9 (a stopped endpoint) and the completion codes of 6.4.5. Nothing here is taken from document 01.
use Rattle.std.specs.Prelude.{ℕ, ◌+◌, ◌^◌, ◌<◌, ◌≤◌, ◌≡◌}

-- What the field tells: the bytes asked for and not moved, the bytes moved, or nothing.
pub data Told : Type 0 where
  residue : Told
  moved : Told
  nothing : Told

-- By the completion code. 6.4.2.1: the bytes of the TRB that were not transferred; with Stopped - Short Packet the bytes moved; with
-- Stopped - Length Invalid the field is not valid. A code that is not named here tells of an error, and the standard promises no bytes.
pub data Tells : ℕ → Told → Type 0 where
  success : Tells 1 residue
  short_packet : Tells 13 residue
  stopped : Tells 26 residue
  stopped_short_packet : Tells 28 moved
  stopped_length_invalid : Tells 27 nothing

-- What the field says of a TRB of `requested` bytes of which n were moved.
abbrev pub Says : Told → ℕ → ℕ → ℕ → Type 0
Says residue requested field n = n + field ≡ requested
Says moved requested field n = (field ≡ n) × (n ≤ requested)
Says nothing requested field n = n ≤ requested

-- The field that a controller may write for such a TRB: it has 24 bits, those from 0 to 23 of an event's third word.
pub record Writes (t : Told) (requested field n : ℕ) : Type 0 where
  pub fits : field < 2 ^ 24
  pub says : Says t requested field n

-- The bytes that may be counted by it.
abbrev pub credit : Told → ℕ → ℕ
credit residue n = n
credit moved n = n
credit nothing n = 0

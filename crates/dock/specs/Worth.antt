-- What a packet is worth: the bytes that an event with a completion code counts for. Document 01, "What a packet is worth"; the standard, 6.4.5.
use Rattle.std.specs.Prelude.{ℕ, ◌-◌, Bool, ◌||◌, eqb}
use Rattle.base.specs.First.{pick}

-- "Accepted codes for control, bulk, interrupt: 1 and 13" (Success, Short Packet).
unfoldable pub accepted : ℕ → Bool
accepted code = eqb code 1 || eqb code 13

-- "length minus remaining, not below 0."
abbrev pub moved_bytes : ℕ → ℕ → ℕ
moved_bytes requested remaining = requested - remaining

-- Bytes, or a code that is refused.
pub data Worth : Type 0 where
  bytes : ℕ → Worth
  refused : Worth

-- "ISO, codes 1, 3, 4, 13, 23, 26, 31": Success, Babble, Transaction Error, Short Packet, Missed Service, Stopped, Isoch Buffer Overrun.
unfoldable pub counts : ℕ → Bool
counts code = eqb code 1 || eqb code 3 || eqb code 4 || eqb code 13 || eqb code 23 || eqb code 26 || eqb code 31

-- "requested minus remaining, not below 0; 28: remaining itself; 27: 0; any other: answer 8."
unfoldable pub worth : ℕ → ℕ → ℕ → Worth
worth code requested remaining =
    pick (counts code) (bytes (moved_bytes requested remaining))
    (pick (eqb code 28) (bytes remaining)
    (pick (eqb code 27) (bytes 0) refused))

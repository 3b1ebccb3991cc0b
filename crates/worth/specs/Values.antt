-- What a packet is worth, as the dock's definition has it.
use Rattle.std.specs.Prelude.{ℕ, Option, Some, None}
use Rattle.dock.specs.Worth.{Worth, bytes, refused}

-- Bytes, or a code that is refused.
abbrev pub worth_of : Option ℕ → Worth
worth_of (Some n) = bytes n
worth_of None = refused

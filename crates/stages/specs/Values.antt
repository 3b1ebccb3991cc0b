-- What a stage of a control request leaves to do, as the dock's definition has it.
use Rattle.std.specs.Prelude.{Option, Some, None}
use Rattle.dock.specs.Reclaim.{Seen, onward, ends}
use Rattle.dock.specs.declared.After.{After}
use Rattle.dock.specs.declared.Reclaimed.{Reclaimed}

-- The later stages, or nothing more.
abbrev pub seen_of : Option (After Reclaimed) → Seen
seen_of None = onward
seen_of (Some r) = ends r

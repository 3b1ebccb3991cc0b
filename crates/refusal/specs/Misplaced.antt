-- The test of a record that is reclaimed.
use Rattle.std.specs.Prelude.{ℕ, ◌+◌, Bool, ◌&&◌, ◌||◌, leb, ltb}
use Rattle.sizes.specs.Sizes.{packet_count}
use Rattle.records.specs.Kinds.{kind_is, isoch}
use Rattle.records.specs.States.{state_is, in_flight}
use Rattle.records.specs.declared.Record.{Record}

-- A record in flight "with a place above L-2 or over 64 packets".
unfoldable pub misplaced : ℕ → Record → Bool
misplaced slots v = state_is v.state in_flight && (leb slots (v.place + 1) || (kind_is v.kind isoch && ltb packet_count v.count))

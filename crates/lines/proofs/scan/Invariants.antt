-- `scan` meets its contract. The loop's invariant: what is left to scan, from the line as it stands, is what was to be scanned. Assumes nothing.
use Prim.Native.Nat.{◌≤◌, max}
use mathlib.Core.Path.{◌≡◌}
use lib.ListN.{length, drop}
use Rattle.lines.specs.Reader.{scan}
use Rattle.lines.proofs.scan.Given as goal

abbrev pub invariant-loop-at : goal.invariant-loop-at
invariant-loop-at l =
    (l.at ≤ max l.from (length l.bytes)) × (scan (drop l.at l.bytes) l.at l.line l.values ≡ scan (drop l.from l.bytes) l.from l.initial.line l.initial.values)

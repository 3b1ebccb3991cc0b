-- The packets of a record as words and as packet records: those that a walk has marked go back into their words.
use Rattle.std.specs.Prelude.{ℕ, zero, suc, List}
use Rattle.base.specs.First.{pick}
use Rattle.packets.specs.Packets.{packet_at, put_packet}
use Rattle.packets.specs.declared.Packet.{Packet}
use Rattle.dock.specs.Reclaim.{Swept, unfinished, fatal, found}
use Rattle.marking.specs.declared.Ended.{Ended}
use Rattle.marking.specs.declared.Ended.TheVariants.{Open, Refused, Found, Unfit, Other}
use Rattle.marking.specs.declared.Standing.{Standing}

-- How a walk ended, as the dock's definition has it: with nothing told yet, at a refused code, or at the last packet.
abbrev pub swept_of : Ended → Swept
swept_of Open = unfinished
swept_of (Refused code) = fatal code
swept_of (Found code) = found code
swept_of Unfit = unfinished
swept_of (Other number code) = unfinished

abbrev pub swept_by : Standing → Swept
swept_by s = swept_of s.ended

-- Packet k is put into its word where it is marked and its word is not.
unfoldable pub keep_one : List ℕ → ℕ → ℕ → Packet → List ℕ
keep_one l number k p = pick (packet_at l number k).marked l (pick p.marked (put_packet l number k p) l)

-- The first n packets.
unfoldable pub keep_below : ℕ → List ℕ → ℕ → (ℕ → Packet) → List ℕ
keep_below zero l number ps = l
keep_below (suc n) l number ps = keep_one (keep_below n l number ps) number n (ps n)

-- The walk over packet records, turn by turn: what a turn leaves of a packet and where the walk stands then, and the turns in order.
use Rattle.std.specs.Prelude.{ℕ, zero, suc, ◌+◌, ◌*◌, ◌≤◌, ◌<◌, Bool, true, false, ◌&&◌, List, eqb, ltb, leb, length, get_or, set, Option, Some, None}
use Rattle.trb.specs.declared.Words.{Words}
use Rattle.base.specs.First.{pick}
use Rattle.sizes.specs.Sizes.{most_slots}
use Rattle.finished.specs.Finished.{finished_at}
use Rattle.packets.specs.declared.Packet.{Packet}
use Rattle.dock.specs.Reclaim.{code_of, remaining_of, counted}
use Rattle.dock.specs.Worth.{Worth, bytes, refused, worth}
use Rattle.marking.specs.declared.Block.{Block}
use Rattle.marking.specs.declared.Ended.{Ended}
use Rattle.marking.specs.declared.Ended.TheVariants.{Open, Refused, Found, Unfit, Other}
use Rattle.marking.specs.declared.Standing.{Standing}
use Rattle.marking.specs.declared.Turned.{Turned}

-- ---- where a walk stands

-- The place behind a place: slot 0 comes after slot L-2.
abbrev pub behind : ℕ → ℕ → ℕ
behind slots place = pick (eqb (place + 2) slots) 0 (place + 1)

-- A walk that ended at the last packet; the others ended not yet, at a refused code, or are not begun, for their block does not fit.
abbrev pub is_found : Ended → Bool
is_found Open = false
is_found (Refused code) = false
is_found (Found code) = true
is_found Unfit = false
is_found (Other number code) = false

-- The block lies in the table of packets, and its places are slots 0 to L-2 of the finished table.
unfoldable pub fitting : ℕ → ℕ → Block → Bool
fitting packets finished b =
    leb b.slots most_slots && ltb (b.place + 1) b.slots && eqb finished (4 * b.slots) && leb (b.first + b.count) packets

abbrev pub started : Block → Standing
started b = record { at = b.first; end = b.first + b.count; first = b.first; place = b.place; slots = b.slots; ended = Open }

abbrev pub unfit : Standing
unfit = record { at = 0; end = 0; first = 0; place = 0; slots = 0; ended = Unfit }

unfoldable pub begin_of : ℕ → ℕ → Block → Standing
begin_of packets finished b = pick (fitting packets finished b) (started b) unfit

-- The places of a walk lie in a finished table of so many words.
pub record Fine (s : Standing) (finished : ℕ) : Type 0 where
  pub place : s.place + 1 < s.slots
  pub table : 4 * s.slots ≤ finished

-- ---- one turn

-- The walk stands elsewhere.
abbrev pub moved_to : Standing → ℕ → ℕ → Standing
moved_to s at place = record { at = at; end = s.end; first = s.first; place = place; slots = s.slots; ended = s.ended }

abbrev pub ended_by : Standing → ℕ → Ended → Standing
ended_by s at ended = record { at = at; end = s.end; first = s.first; place = s.place; slots = s.slots; ended = ended }

-- It goes on behind the packet,
abbrev pub onward : Standing → Standing
onward s = moved_to s (s.at + 1) (behind s.slots s.place)

-- it starts again at the first packet, to close those without an event,
abbrev pub again : Standing → ℕ → Standing
again s code = ended_by s s.first (Found code)

-- or it ends.
abbrev pub broken : Standing → ℕ → Standing
broken s code = ended_by s s.end (Refused code)

abbrev pub after : Packet → Standing → Turned
after p s = record { packet = p; standing = s }

-- "when the last packet is found, earlier ones without an event count 0."
unfoldable pub closed_of : Packet → Packet
closed_of p = pick p.marked p (counted p 0)

-- A packet counts its bytes.
unfoldable pub credit_of : Packet → ℕ → ℕ → Standing → Turned
credit_of p size code s = after (counted p size) (pick (eqb (s.at + 1) s.end) (again s code) (onward s))

abbrev pub worth_by : Worth → Packet → ℕ → Standing → Turned
worth_by refused p code s = after p (broken s code)
worth_by (bytes n) p code s = credit_of p n code s

-- A packet that is not marked, by what stands at its place.
unfoldable pub seen_of : Option Words → Packet → Standing → Turned
seen_of None p s = after p (onward s)
seen_of (Some w) p s = worth_by (worth (code_of w) p.requested (remaining_of w)) p (code_of w) s

unfoldable pub turn_of : Packet → Option Words → Standing → Turned
turn_of p f s =
    pick (is_found s.ended) (after (closed_of p) (moved_to s (s.at + 1) s.place))
    (pick p.marked (after p (onward s)) (seen_of f p s))

-- ---- the turns in order

pub record Walked : Type 0 where
  pub packets : List Packet
  pub standing : Standing

abbrev pub standing_at : List Packet → Standing → Walked
standing_at ps s = record { packets = ps; standing = s }

-- What is read past the end of the packets, which nothing does.
abbrev pub nowhere : Packet
nowhere = record { requested = 0; actual = 0; marked = false }

-- The turn at the packet where the walk stands.
abbrev pub turn_at : Standing → List Packet → List ℕ → Turned
turn_at s ps finished = turn_of (get_or ps s.at nowhere) (finished_at finished s.place) s

-- At most n turns.
unfoldable pub turns : ℕ → Standing → List Packet → List ℕ → Walked
turns zero s ps finished = standing_at ps s
turns (suc n) s ps finished =
    let t = turn_at s ps finished in
    pick (ltb s.at s.end) (turns n t.standing (set ps s.at t.packet) finished) (standing_at ps s)

-- The whole walk: at most two turns a packet.
unfoldable pub walked : List Packet → List ℕ → Block → Walked
walked ps finished b = turns (2 * b.count) (begin_of (length ps) (length finished) b) ps finished

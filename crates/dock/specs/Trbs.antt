-- The TRBs of a request, computed from its record and its packets. Document 01, "Words of a TRB" and "The order of stores". Those that say how data moves are
-- given the endpoint, whether a field needs it or not.
use Rattle.std.specs.Prelude.{ℕ, ◌+◌, ◌%◌, ◌^◌, min, max, Bool, true, false, not, ◌&&◌, List, eqb, ltb}
use Rattle.base.specs.First.{pick}
use Rattle.base.specs.Fields.{bits}
use Rattle.bursts.specs.Bursts.{bursts_of}
use Rattle.bursts.specs.declared.Bursts.{Bursts}
use Rattle.trb.specs.declared.Trb.{Trb}
use Rattle.trb.specs.declared.Trb.TheVariants.{Normal, Setup, Data, Status, Isoch}
use Rattle.ring.specs.Ring.{link_trb}
use Rattle.sizes.specs.Sizes.{packet_count, frames}
use Rattle.packets.specs.Packets.{packet_at}
use Rattle.records.specs.Kinds.{kind_is, control, bulk, interrupt, isoch}
use Rattle.records.specs.declared.Record.{Record}
use Rattle.dock.specs.declared.Endpoint.{Endpoint}

-- How many TRBs a record's request has, by its kind: a record whose kind is none has none, and no request has over 64 packets.
unfoldable pub trb_count : Record → ℕ
trb_count v =
    pick (kind_is v.kind control) (pick (eqb v.length 0) 2 3)
    (pick (kind_is v.kind isoch) (min packet_count v.count)
    (pick (kind_is v.kind bulk) 1
    (pick (kind_is v.kind interrupt) 1 0)))

-- A length as a TRB's length field has it, 17 bits.
abbrev pub field17 : ℕ → ℕ
field17 n = n % 2 ^ 17

-- Setup: "bits 16-17 = 0 no data, 2 out, 3 in".
abbrev pub transfer_type : Record → ℕ
transfer_type v = pick (eqb v.length 0) 0 (pick v.incoming 3 2)

abbrev pub setup_trb : Record → Trb
setup_trb v =
    Setup (bits 0 8 v.setup) (bits 8 8 v.setup) (bits 16 16 v.setup) (bits 32 16 v.setup) (v.length % 2 ^ 16) (transfer_type v)

-- Data: "bit 2 (short interrupt) and bit 16 when in".
abbrev pub data_trb : Record → Trb
data_trb v = Data v.address (field17 v.length) v.incoming v.incoming

-- Status: "bit 5 (interrupt), bit 16 clear exactly for in with data".
abbrev pub status_trb : Record → Trb
status_trb v = Status true (not (v.incoming && ltb 0 v.length))

-- Normal: "address, length, w3 bits 2 and 5".
abbrev pub normal_trb : Endpoint → Record → Trb
normal_trb e v = Normal v.address (field17 v.length) 0 0 true false true

-- Isoch: "bit 2 when in, bit 5, bit 9 on all but the last packet, last-burst count at bit 16, bit 31. With bit 31 on the frame id is 0".
-- The TRB of a packet of so many bytes at an address, by its burst counts; `more` says that it is not the last.
abbrev pub packet_trb : Bursts → Bool → ℕ → ℕ → Bool → Trb
packet_trb bursts incoming address size more =
    Isoch address (field17 size) bursts.count 0 incoming false true more bursts.last 0 true

-- Packet k of the request under way, of so many bytes.
abbrev pub isoch_trb : Endpoint → Record → ℕ → ℕ → Trb
isoch_trb e v k size =
    packet_trb (bursts_of size e.periodic.packet e.periodic.burst) v.incoming e.work.address size (not (eqb (k + 1) (trb_count v)))

-- What packet k of the request under way asks for.
abbrev pub packet_size : Endpoint → List ℕ → ℕ → ℕ
packet_size e packets k = (packet_at packets e.work.number k).requested

-- TRB k of a record's request.
unfoldable pub trb_of : Endpoint → Record → List ℕ → ℕ → Trb
trb_of e v packets k =
    pick (kind_is v.kind control)
    (pick (eqb k 0) (setup_trb v) (pick (eqb k 1 && ltb 0 v.length) (data_trb v) (status_trb v)))
    (pick (kind_is v.kind isoch) (isoch_trb e v k (packet_size e packets k)) (normal_trb e v))

-- ---- a TD by name

-- Whether a TD stores its first TRB last.
-- "A control TD stores its setup with the opposite cycle, the rest as usual, then the setup again with the right one."
unfoldable pub deferred : Record → Bool
deferred v = kind_is v.kind control

-- The first TRB, which a deferred TD stores again.
abbrev pub first_trb : Endpoint → Record → List ℕ → Trb
first_trb e v packets = trb_of e v packets 0

-- Whether the link is chained, should a TD's stores come to L-1: no TRB of a request is chained to the next.
unfoldable pub chained : Endpoint → Record → Bool
chained e v = false

-- The link of a record's TD.
abbrev pub link_for : Endpoint → Record → Trb
link_for e v = link_trb e.shape.base (chained e v)

-- ---- the next frame

-- "the next frame number moves by the interval modulo 2,048 at each packet's store." "interval at least 1 (0 is taken as 1)."
abbrev pub frame_after : ℕ → ℕ → ℕ
frame_after frame interval = (frame + max 1 interval) % frames

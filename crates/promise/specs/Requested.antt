-- The TRBs of a request, from what it asks for and the settings that it is submitted under (document 01, "Words of a TRB"), the bytes that they name, and
-- where each of them must stand. Nothing here knows the ring, nor the dock's state.
use Rattle.std.specs.Prelude.{ℕ, suc, ◌+◌, ◌-◌, ◌/◌, ◌%◌, ◌^◌, ◌<◌, ◌≤◌, Bool, true, false, not, ◌&&◌, List, [], ◌∷◌, ◌≡◌, eqb, ltb, length}
use Rattle.base.specs.First.{pick}
use Rattle.base.specs.Fields.{bits}
use Rattle.bursts.specs.Bursts.{bursts_of}
use Rattle.trb.specs.Layouts.{words_of}
use Rattle.trb.specs.declared.Trb.{Trb}
use Rattle.trb.specs.declared.Trb.TheVariants.{Normal, Setup, Data, Status, Isoch, Link, ResetEndpoint, StopEndpoint, SetDequeue}
use Rattle.dock.specs.declared.Request.{Request}
use Rattle.dock.specs.declared.What.{What}
use Rattle.dock.specs.declared.What.TheVariants as asks
use Rattle.dock.specs.Requests.{record_for}
use Rattle.dock.specs.Start.{at_least_one}
use Rattle.dock.specs.Trbs.{deferred}
use Rattle.promise.specs.Controller.{Entry}

-- ---- the TRBs of a request

-- "With a data length of 0 the address stored is 0 (also with no buffer)".
abbrev pub address_stored : ℕ → ℕ → ℕ
address_stored address size = pick (eqb size 0) 0 address

-- Setup: "bits 16-17 = 0 no data, 2 out, 3 in". Data: "bit 2 (short interrupt) and bit 16 when in". Status: "bit 5 (interrupt), bit 16 clear exactly for in
-- with data".
abbrev pub control_trbs : ℕ → ℕ → ℕ → ℕ → ℕ → ℕ → Bool → List Trb
control_trbs type request value index address size incoming =
    pick (eqb size 0)
    (Setup type request value index 0 0 ∷ Status true true ∷ [])
    (Setup type request value index size (pick incoming 3 2) ∷ Data address size incoming incoming ∷ Status true (not incoming) ∷ [])

-- Normal: "address, length, w3 bits 2 and 5".
abbrev pub normal_trbs : ℕ → ℕ → List Trb
normal_trbs address size = Normal (address_stored address size) size 0 0 true false true ∷ []

abbrev pub some : List ℕ → Bool
some [] = false
some (n ∷ ns) = true

-- Isoch: "address; w2 length, burst count at bit 17; w3 bit 2 when in, bit 5, bit 9 on all but the last packet, last-burst count at bit 16, bit 31": one TRB a
-- packet, the address running on by each packet's length. Document 02: "An empty packet's address is taken modulo 2^64."
abbrev pub isoch_trbs : Bool → ℕ → ℕ → ℕ → List ℕ → List Trb
isoch_trbs incoming packet burst address [] = []
isoch_trbs incoming packet burst address (n ∷ ns) =
    Isoch address n (bursts_of n packet burst).count 0 incoming false true (some ns) (bursts_of n packet burst).last 0 true
    ∷ isoch_trbs incoming packet burst ((address + n) % 2 ^ 64) ns

-- The settings that a configure gives: max packet size, burst and interval.
pub record Settings : Type 0 where
  pub packet : ℕ
  pub burst : ℕ
  -- no TRB has it: with bit 31 on the frame id is 0
  pub interval : ℕ

-- Those of a dock that is made: "next frame, max packet and burst 0, interval 1".
abbrev pub at_making : Settings
at_making = record { packet = 0; burst = 0; interval = 1 }

-- The TRBs of a request that is submitted under these settings. "request type (bit 7 is in)". "No packets means one packet of length 0".
abbrev pub trbs_for : Settings → What → ℕ → ℕ → List ℕ → List Trb
trbs_for s (asks.Control type request value index) address size lengths = control_trbs type request value index address size (eqb (bits 7 1 type) 1)
trbs_for s (asks.Bulk incoming) address size lengths = normal_trbs address size
trbs_for s (asks.Interrupt incoming) address size lengths = normal_trbs address size
trbs_for s (asks.Isoch incoming) address size lengths = isoch_trbs incoming s.packet s.burst (address_stored address size) (at_least_one lengths)

abbrev pub trbs_of : Settings → Request → List ℕ → List Trb
trbs_of s request lengths = trbs_for s request.what request.address request.length lengths

-- ---- the bytes that they name

-- The buffer that a TRB names.
pub record Buffer : Type 0 where
  pub address : ℕ
  pub size : ℕ

-- A setup, a status, a link and a command name none.
abbrev pub nowhere : Buffer
nowhere = record { address = 0; size = 0 }

abbrev pub buffer_in : Trb → Buffer
buffer_in (Normal address size td target short chain interrupt) = record { address = address; size = size }
buffer_in (Setup type request value index size transfer) = nowhere
buffer_in (Data address size short incoming) = record { address = address; size = size }
buffer_in (Status interrupt incoming) = nowhere
buffer_in (Isoch address size bursts target short chain interrupt block last frame asap) = record { address = address; size = size }
buffer_in (Link address toggle chain) = nowhere
buffer_in (ResetEndpoint endpoint slot) = nowhere
buffer_in (StopEndpoint endpoint slot) = nowhere
buffer_in (SetDequeue address state endpoint slot) = nowhere

-- No byte that one of them names lies above the mask.
abbrev pub NoneAbove : ℕ → List Trb → Type 0
NoneAbove mask [] = Unit {0}
NoneAbove mask (t ∷ ts) = ((k : ℕ) → k < (buffer_in t).size → (buffer_in t).address + k ≤ mask) × NoneAbove mask ts

-- Packets of these lengths, one behind the other from this address on, and their TRBs: each has its packet's length and the address modulo 2^64; where the
-- packet has a byte, the address itself.
abbrev pub InTurn : ℕ → List ℕ → List Trb → Type 0
InTurn address [] [] = Unit {0}
InTurn address [] (t ∷ ts) = ⊥
InTurn address (n ∷ ns) [] = ⊥
InTurn address (n ∷ ns) (t ∷ ts) =
    (((buffer_in t).size ≡ n) × ((buffer_in t).address ≡ address % 2 ^ 64)) × ((0 < n → (buffer_in t).address ≡ address) × InTurn (address + n) ns ts)

-- ---- what a request may say

-- The setup's fields are numbers of their types: u8, u8, u16, u16.
abbrev pub typed : What → Bool
typed (asks.Control type request value index) = ltb type (2 ^ 8) && ltb request (2 ^ 8) && ltb value (2 ^ 16) && ltb index (2 ^ 16)
typed (asks.Bulk incoming) = true
typed (asks.Interrupt incoming) = true
typed (asks.Isoch incoming) = true

-- ---- the last request

-- The last request that was admitted, with its packet lengths, if there was any.
pub data Last : Type 0 where
  never : Last
  requested : Request → (lengths : List ℕ) → Last

abbrev pub last_trbs : Settings → Last → List Trb
last_trbs s never = []
last_trbs s (requested request lengths) = trbs_of s request lengths

-- Whether it is a control request,
abbrev pub is_control : What → Bool
is_control (asks.Control type request value index) = true
is_control (asks.Bulk incoming) = false
is_control (asks.Interrupt incoming) = false
is_control (asks.Isoch incoming) = false

abbrev pub controls : Last → Bool
controls never = false
controls (requested request lengths) = is_control request.what

-- and whether its TD stores its first TRB last: as its record says, under any id and at any place.
abbrev pub defers : Last → Bool
defers never = false
defers (requested request lengths) = deferred (record_for request (length lengths) 0 0)

-- ---- where they stand

-- TRB number n, counted from the making of the ring: slot n mod (L-1), for slot L-1 is the link's, and cycle 1 on the first round, 0 on the next, and so on.
abbrev pub slot_of : ℕ → ℕ → ℕ
slot_of slots n = n % (slots - 1)

abbrev pub cycle_of : ℕ → ℕ → Bool
cycle_of slots n = eqb (n / (slots - 1) % 2) 0

-- TRBs from number n on, each in its slot and with its final words.
abbrev pub laid_out : ℕ → ℕ → List Trb → List Entry
laid_out slots n [] = []
laid_out slots n (t ∷ ts) = record { at = slot_of slots n; trb = words_of t (cycle_of slots n) } ∷ laid_out slots (suc n) ts

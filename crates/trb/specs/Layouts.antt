-- The layout of each TRB, field by field (offset, width, value), as the xHCI specification 1.2 has it in section 6.4. Bits that no field names
-- are 0: reserved, or fields of the standard that the dock leaves 0. Document 01, "Words of a TRB".
use Rattle.std.specs.Prelude.{ℕ, ◌+◌, ◌*◌, ◌/◌, ◌^◌, Bool, false, List, [], ◌∷◌, get_or}
use Rattle.base.specs.Fields.{Field, field, flag, word}
use Rattle.base.specs.Part.{put}
use Rattle.trb.specs.declared.Words.{Words}
use Rattle.trb.specs.declared.Trb.{Trb}
use Rattle.trb.specs.declared.Trb.TheVariants.{Normal, Setup, Data, Status, Isoch, Link, ResetEndpoint, StopEndpoint, SetDequeue}

-- The fields of the four words.
pub record Layout : Type 0 where
  pub w0 : List Field
  pub w1 : List Field
  pub w2 : List Field
  pub w3 : List Field

-- ---- words that several TRBs have

-- A buffer's or a TRB's address, low half in w0, high half in w1.
abbrev pub address_low : ℕ → List Field
address_low address = field 0 32 address ∷ []

abbrev pub address_high : ℕ → List Field
address_high address = field 0 32 (address / 2 ^ 32) ∷ []

-- A pointer to TRBs, whose low four bits are not stored; bit 0 is a cycle state, where the TRB has one (6.4.3.9), else 0 (6.4.4.1).
abbrev pub pointer_low : ℕ → Bool → List Field
pointer_low address state = field 0 1 (flag state) ∷ field 4 28 (address / 16) ∷ []

-- Transfer length, TD size (of an Isoch TRB with extended burst counts: the burst count) and interrupter target (6.4.1.1, 6.4.1.3).
abbrev pub sizes : ℕ → ℕ → ℕ → List Field
sizes length size target = field 0 17 length ∷ field 17 5 size ∷ field 22 10 target ∷ []

-- ---- the words of one TRB only

-- Setup stage (6.4.1.2.1): the eight bytes of the request in w0 and w1; immediate data (6) and the transfer type (16, 17: 0 none, 2 out, 3 in).
abbrev pub setup_request : ℕ → ℕ → ℕ → List Field
setup_request type request value = field 0 8 type ∷ field 8 8 request ∷ field 16 16 value ∷ []

abbrev pub setup_index : ℕ → ℕ → List Field
setup_index index length = field 0 16 index ∷ field 16 16 length ∷ []

abbrev pub setup_control : Bool → ℕ → List Field
setup_control cycle transfer = field 0 1 (flag cycle) ∷ field 6 1 1 ∷ field 10 6 2 ∷ field 16 2 transfer ∷ []

-- Data stage (6.4.1.2.2): interrupt on short packet (2), direction in (16).
abbrev pub data_control : Bool → Bool → Bool → List Field
data_control cycle short incoming = field 0 1 (flag cycle) ∷ field 2 1 (flag short) ∷ field 10 6 3 ∷ field 16 1 (flag incoming) ∷ []

-- Status stage (6.4.1.2.3): interrupt on completion (5), direction in (16).
abbrev pub status_control : Bool → Bool → Bool → List Field
status_control cycle interrupt incoming =
    field 0 1 (flag cycle) ∷ field 5 1 (flag interrupt) ∷ field 10 6 4 ∷ field 16 1 (flag incoming) ∷ []

-- Normal (6.4.1.1): interrupt on short packet (2), chain (4), interrupt on completion (5).
abbrev pub normal_control : Bool → Bool → Bool → Bool → List Field
normal_control cycle short chain interrupt =
    field 0 1 (flag cycle) ∷ field 2 1 (flag short) ∷ field 4 1 (flag chain) ∷ field 5 1 (flag interrupt) ∷ field 10 6 1 ∷ []

-- Isoch (6.4.1.3): as Normal, and block event interrupt (9), last-burst packet count (16-19), frame id (20-30), start as soon as possible (31).
abbrev pub isoch_control : Bool → Bool → Bool → Bool → Bool → ℕ → ℕ → Bool → List Field
isoch_control cycle short chain interrupt block last frame asap =
    field 0 1 (flag cycle)
    ∷ field 2 1 (flag short)
    ∷ field 4 1 (flag chain)
    ∷ field 5 1 (flag interrupt)
    ∷ field 9 1 (flag block)
    ∷ field 10 6 5
    ∷ field 16 4 last
    ∷ field 20 11 frame
    ∷ field 31 1 (flag asap)
    ∷ []

-- Link (6.4.4.1): toggle cycle (1), chain (4).
abbrev pub link_control : Bool → Bool → Bool → List Field
link_control cycle toggle chain = field 0 1 (flag cycle) ∷ field 1 1 (flag toggle) ∷ field 4 1 (flag chain) ∷ field 10 6 6 ∷ []

-- A command for an endpoint (6.4.3.7 Reset Endpoint, 6.4.3.8 Stop Endpoint, 6.4.3.9 Set TR Dequeue Pointer): endpoint (16-20), slot (24-31).
abbrev pub command_control : Bool → ℕ → ℕ → ℕ → List Field
command_control cycle type endpoint slot = field 0 1 (flag cycle) ∷ field 10 6 type ∷ field 16 5 endpoint ∷ field 24 8 slot ∷ []

-- ---- every TRB

abbrev pub layout : Trb → Bool → Layout
layout (Normal address length size target short chain interrupt) cycle =
    record { w0 = address_low address; w1 = address_high address; w2 = sizes length size target; w3 = normal_control cycle short chain interrupt }
layout (Setup type request value index length transfer) cycle =
    record { w0 = setup_request type request value; w1 = setup_index index length; w2 = field 0 17 8 ∷ []; w3 = setup_control cycle transfer }
layout (Data address length short incoming) cycle =
    record { w0 = address_low address; w1 = address_high address; w2 = sizes length 0 0; w3 = data_control cycle short incoming }
layout (Status interrupt incoming) cycle =
    record { w0 = []; w1 = []; w2 = []; w3 = status_control cycle interrupt incoming }
layout (Isoch address length bursts target short chain interrupt block last frame asap) cycle =
    record { w0 = address_low address; w1 = address_high address; w2 = sizes length bursts target; w3 = isoch_control cycle short chain interrupt block last frame asap }
layout (Link address toggle chain) cycle =
    record { w0 = pointer_low address false; w1 = address_high address; w2 = []; w3 = link_control cycle toggle chain }
layout (ResetEndpoint endpoint slot) cycle =
    record { w0 = []; w1 = []; w2 = []; w3 = command_control cycle 14 endpoint slot }
layout (StopEndpoint endpoint slot) cycle =
    record { w0 = []; w1 = []; w2 = []; w3 = command_control cycle 15 endpoint slot }
layout (SetDequeue address state endpoint slot) cycle =
    record { w0 = pointer_low address state; w1 = address_high address; w2 = []; w3 = command_control cycle 16 endpoint slot }

-- The type of each (6.4.6).
abbrev pub type_number : Trb → ℕ
type_number (Normal address length size target short chain interrupt) = 1
type_number (Setup type request value index length transfer) = 2
type_number (Data address length short incoming) = 3
type_number (Status interrupt incoming) = 4
type_number (Isoch address length bursts target short chain interrupt block last frame asap) = 5
type_number (Link address toggle chain) = 6
type_number (ResetEndpoint endpoint slot) = 14
type_number (StopEndpoint endpoint slot) = 15
type_number (SetDequeue address state endpoint slot) = 16

-- The words that have these fields.
abbrev pub words_in : Layout → Words
words_in l = record { w0 = word l.w0; w1 = word l.w1; w2 = word l.w2; w3 = word l.w3 }

-- The four words of a TRB with this cycle bit.
unfoldable pub words_of : Trb → Bool → Words
words_of trb cycle = words_in (layout trb cycle)

-- Four words as they stand in a table, w0 first.
abbrev pub listed : Words → List ℕ
listed w = w.w0 ∷ w.w1 ∷ w.w2 ∷ w.w3 ∷ []

-- The four words of block i of a table of four words a block, as the slots of a ring and the places of the finished table are.
unfoldable pub words_at : List ℕ → ℕ → Words
words_at l i = record { w0 = get_or l (4 * i) 0; w1 = get_or l (4 * i + 1) 0; w2 = get_or l (4 * i + 2) 0; w3 = get_or l (4 * i + 3) 0 }

-- The table with these four words in block i, and every other word as it was.
unfoldable pub put_words : List ℕ → ℕ → Words → List ℕ
put_words l i w = put 4 l i (listed w)

-- A request: what it asks for, how many TRBs it takes, and the record that is kept of it.
use Rattle.std.specs.Prelude.{ℕ, ◌+◌, ◌*◌, ◌^◌, max, Bool, false, eqb}
use Rattle.base.specs.First.{pick}
use Rattle.base.specs.Fields.{bits}
use Rattle.records.specs.Kinds.{kind_number}
use Rattle.records.specs.States.{in_flight}
use Rattle.records.specs.declared.Kind.{Kind}
use Rattle.records.specs.declared.Kind.TheVariants as kinds
use Rattle.records.specs.declared.Record.{Record}
use Rattle.dock.specs.declared.Request.{Request}
use Rattle.dock.specs.declared.What.{What}
use Rattle.dock.specs.declared.What.TheVariants.{Control, Bulk, Interrupt, Isoch}

abbrev pub kind_of : What → Kind
kind_of (Control type request value index) = kinds.Control
kind_of (Bulk incoming) = kinds.Bulk
kind_of (Interrupt incoming) = kinds.Interrupt
kind_of (Isoch incoming) = kinds.Isoch

-- "request type (bit 7 is in)."
abbrev pub incoming_of : What → Bool
incoming_of (Control type request value index) = eqb (bits 7 1 type) 1
incoming_of (Bulk incoming) = incoming
incoming_of (Interrupt incoming) = incoming
incoming_of (Isoch incoming) = incoming

-- The setup's fields in one number: request type, request, value, index, low byte first.
abbrev pub setup_of : What → ℕ
setup_of (Control type request value index) = type + request * 2 ^ 8 + value * 2 ^ 16 + index * 2 ^ 32
setup_of (Bulk incoming) = 0
setup_of (Interrupt incoming) = 0
setup_of (Isoch incoming) = 0

-- The packets given with a request, of so many lengths.
abbrev pub given_of : What → ℕ → ℕ
given_of (Control type request value index) count = 0
given_of (Bulk incoming) count = 0
given_of (Interrupt incoming) count = 0
given_of (Isoch incoming) count = count

-- The TRBs that a request of a data length takes: setup, data where there is any, and status; one; or one a packet.
-- "No packets means one packet of length 0."
abbrev pub count_for : What → ℕ → ℕ → ℕ
count_for (Control type request value index) size count = pick (eqb size 0) 2 3
count_for (Bulk incoming) size count = 1
count_for (Interrupt incoming) size count = 1
count_for (Isoch incoming) size count = max 1 count

abbrev pub required : Request → ℕ → ℕ
required request count = count_for request.what request.length count

-- "With a data length of 0 the address stored is 0 (also with no buffer)."
abbrev pub buffer_of : Request → ℕ
buffer_of request = pick (eqb request.length 0) 0 request.address

-- The request with something else asked for.
abbrev pub with_what : Request → What → Request
with_what request what = record { what = what; address = request.address; length = request.length }

-- The record that is kept of a request with so many packet lengths, under an id, its first TRB at a place.
abbrev pub record_for : Request → ℕ → ℕ → ℕ → Record
record_for request count id place =
    record {
      id = id;
      kind = kind_number (kind_of request.what);
      incoming = incoming_of request.what;
      state = in_flight;
      cancelled = false;
      address = buffer_of request;
      length = request.length;
      setup = setup_of request.what;
      place = place;
      count = required request count;
      given = given_of request.what count;
      recorded = 0;
    }

-- The numbers of documents 01 and 02, most of them of "What a dock may hold", and the kinds of a request, each once, by its name. src/lib.rt has the same
-- for the code.
use Rattle.std.specs.Prelude.{ℕ, ◌-◌, ◌*◌}

-- "Slots L: 3 to 4,096."
abbrev pub fewest_slots : ℕ
fewest_slots = 3

abbrev pub most_slots : ℕ
most_slots = 4096

-- "Base: a multiple of 4,096."
abbrev pub alignment : ℕ
alignment = 4096

-- Document 02: "a transfer ring segment may not cross a 64 KiB address boundary."
abbrev pub boundary : ℕ
boundary = 65536

-- A TRB: its bytes, and its words in the ring; an event has as many in the finished table.
abbrev pub trb_bytes : ℕ
trb_bytes = 16

abbrev pub trb_words : ℕ
trb_words = 4

-- "dci 1 to 31, slot id 1 to 255."
abbrev pub most_dci : ℕ
most_dci = 31

abbrev pub most_slot_id : ℕ
most_slot_id = 255

-- The TRBs that a ring takes at most: "outstanding + required above L-2" is refused.
abbrev pub capacity : ℕ → ℕ
capacity slots = slots - 2

-- The words of the ring, and of the finished table, of so many slots.
abbrev pub ring_size : ℕ → ℕ
ring_size slots = trb_words * slots

-- "64 request records", of twelve words,
abbrev pub record_count : ℕ
record_count = 64

abbrev pub record_words : ℕ
record_words = 12

abbrev pub records_size : ℕ
records_size = record_count * record_words

-- "64 packet records for each", of one.
abbrev pub packet_count : ℕ
packet_count = 64

abbrev pub packets_size : ℕ
packets_size = record_count * packet_count

-- "Data length: bulk, interrupt or one packet at most 65,536; control at most 65,535."
abbrev pub longest : ℕ
longest = 65536

abbrev pub longest_control : ℕ
longest_control = 65535

-- The frame numbers: the next one moves "modulo 2,048".
abbrev pub frames : ℕ
frames = 2048

-- The numbers of the kinds of a request, as its record has them.
abbrev pub control_number : ℕ
control_number = 0

abbrev pub bulk_number : ℕ
bulk_number = 1

abbrev pub interrupt_number : ℕ
interrupt_number = 2

abbrev pub isoch_number : ℕ
isoch_number = 3

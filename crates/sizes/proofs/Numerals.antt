-- The numbers, as documents 01 and 02 write them. Assumes nothing.
use Prim.Native.Nat.{◌*◌}
use mathlib.Core.Path.{◌≡◌, refl}
use Rattle.sizes.specs.Sizes.{fewest_slots, most_slots, alignment, boundary, trb_bytes, trb_words, most_dci, most_slot_id, capacity, ring_size, record_count, record_words, records_size, packet_count, packets_size, longest, longest_control, frames, control_number, bulk_number, interrupt_number, isoch_number}

-- "Slots L: 3 to 4,096." "Base: a multiple of 4,096, base + 16L at most 2^64." "dci 1 to 31, slot id 1 to 255." A TRB is four words.
pub ring_numbers : (fewest_slots ≡ 3) × (most_slots ≡ 4096) × (alignment ≡ 4096) × (trb_bytes ≡ 16) × (trb_words ≡ 4) × (most_dci ≡ 31) × (most_slot_id ≡ 255)
ring_numbers = (refl, refl, refl, refl, refl, refl, refl)

-- Document 02: 64 KiB, "floor(base / 65,536)".
pub boundary_number : (boundary ≡ 65536) × (boundary ≡ 64 * 1024) × (boundary ≡ trb_bytes * most_slots)
boundary_number = (refl, refl, refl)

-- At most L-2 TRBs: 4,094 in the largest ring.
pub ring_rules : (capacity 4096 ≡ 4094) × (capacity 3 ≡ 1) × (ring_size 256 ≡ 1024)
ring_rules = (refl, refl, refl)

-- "64 request records", of twelve words; "64 packet records for each".
pub table_numbers : (record_count ≡ 64) × (record_words ≡ 12) × (records_size ≡ 768) × (packet_count ≡ 64) × (packets_size ≡ 4096)
table_numbers = (refl, refl, refl, refl, refl)

-- "Data length: bulk, interrupt or one packet at most 65,536; control at most 65,535." The frame number moves "modulo 2,048".
pub length_numbers : (longest ≡ 65536) × (longest_control ≡ 65535) × (frames ≡ 2048)
length_numbers = (refl, refl, refl)

pub kind_numbers : (control_number ≡ 0) × (bulk_number ≡ 1) × (interrupt_number ≡ 2) × (isoch_number ≡ 3)
kind_numbers = (refl, refl, refl, refl)

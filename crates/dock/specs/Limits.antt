-- Document 01, "What a dock may hold", and document 02's rule on top of it: every limit once, by its name.
use Rattle.std.specs.Prelude.{◌+◌, ◌-◌, ◌*◌, ◌/◌, ◌%◌, ◌^◌, Bool, ◌&&◌, leb, eqb}
use Rattle.sizes.specs.Sizes.{fewest_slots, most_slots, alignment, boundary, trb_bytes, most_dci, most_slot_id}
use Rattle.dock.specs.declared.Identity.{Identity}
use Rattle.dock.specs.declared.Shape.{Shape}

-- "Slots L: 3 to 4,096."
abbrev pub slots_fit : Shape → Bool
slots_fit shape = leb fewest_slots shape.slots && leb shape.slots most_slots

-- "Base: a multiple of 4,096, base + 16L at most 2^64."
abbrev pub base_fits : Shape → Bool
base_fits shape = eqb (shape.base % alignment) 0 && leb (shape.base + trb_bytes * shape.slots) (2 ^ 64)

-- Document 02: "From now on making a ring also answers 13 when floor(base / 65,536) differs from floor((base + 16L - 1) / 65,536)." Here: the two are the same.
abbrev pub crosses_none : Shape → Bool
crosses_none shape = eqb (shape.base / boundary) ((shape.base + trb_bytes * shape.slots - 1) / boundary)

-- "dci 1 to 31, slot id 1 to 255."
abbrev pub ids_fit : Identity → Bool
ids_fit who = leb 1 who.dci && leb who.dci most_dci && leb 1 who.slot && leb who.slot most_slot_id

-- All of them: what making refuses with 13, and every other call with 1. Document 02: "Answer 1 reads the same rule."
unfoldable pub limits_hold : Shape → Identity → Bool
limits_hold shape who = slots_fit shape && base_fits shape && crosses_none shape && ids_fit who

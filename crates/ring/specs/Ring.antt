-- A ring as a list of words, four a slot, and what each store leaves in it. Document 01, "The order of stores"; ring.rs.
use Rattle.std.specs.Prelude.{ℕ, ◌+◌, ◌-◌, ◌*◌, ◌/◌, ◌%◌, Bool, true, not, ◌&&◌, List, leb, ltb, eqb, Option, Some, None}
use Rattle.base.specs.First.{pick}
use Rattle.trb.specs.Layouts.{words_of, put_words}
use Rattle.trb.specs.declared.Trb.{Trb}
use Rattle.trb.specs.declared.Trb.TheVariants.{Link}
use Rattle.ring.specs.declared.Manner.{Manner}
use Rattle.ring.specs.declared.Manner.TheVariants.{Onward, Around, Again}
use Rattle.ring.specs.declared.Position.{Position}
use Rattle.ring.specs.declared.Pointer.{Pointer}

-- One store: the TRB's words with this cycle bit in the slot, and every other word as it was.
unfoldable pub store_at : List ℕ → ℕ → Trb → Bool → List ℕ
store_at ring place trb cycle = put_words ring place (words_of trb cycle)

-- The position after a TRB: one place on, under the same cycle.
abbrev pub onward : Position → Position
onward p = record { place = p.place + 1; cycle = p.cycle }

-- The position after the link: place 0, the cycle toggled.
abbrev pub around : Position → Position
around p = record { place = 0; cycle = not p.cycle }

-- A store by its manner: its cycle bit, the position behind it, the ring, and both.
abbrev pub cycle_by : Manner → Bool → Bool
cycle_by (Onward deferred) cycle = pick deferred (not cycle) cycle
cycle_by Around cycle = cycle
cycle_by Again cycle = cycle

abbrev pub position_by : Manner → Position → Position
position_by (Onward deferred) p = onward p
position_by Around p = around p
position_by Again p = p

abbrev pub ring_by : Manner → List ℕ → Position → Trb → List ℕ
ring_by manner ring p trb = store_at ring p.place trb (cycle_by manner p.cycle)

unfoldable pub stored_by : Manner → List ℕ → Position → Trb → Position × List ℕ
stored_by manner ring p trb = (position_by manner p, ring_by manner ring p trb)

-- "A store puts a TRB at the place with the current cycle; the place rises."
abbrev pub enque_transfer : List ℕ → Position → Trb → Position × List ℕ
enque_transfer ring p trb = (onward p, store_at ring p.place trb p.cycle)

-- "A control TD stores its setup with the opposite cycle."
abbrev pub enque_deferred : List ℕ → Position → Trb → Position × List ℕ
enque_deferred ring p trb = (onward p, store_at ring p.place trb (not p.cycle))

-- ".. then the setup again with the right one": at the position that it was stored at.
abbrev pub enque_again : List ℕ → Position → Trb → List ℕ
enque_again ring p trb = store_at ring p.place trb p.cycle

-- The link of a ring at `base`: it leads to slot 0 and toggles the cycle there.
abbrev pub link_trb : ℕ → Bool → Trb
link_trb base chain = Link base true chain

-- "the link at L-1 with the old cycle, then place 0 and the cycle toggled."
abbrev pub next_index : List ℕ → Position → ℕ → Bool → Position × List ℕ
next_index ring p base chain = (around p, store_at ring p.place (link_trb base chain) p.cycle)

-- The address of a slot: 16 bytes a TRB.
abbrev pub slot_address : ℕ → ℕ → ℕ
slot_address base place = base + 16 * place

-- Where the producer stands, and its cycle (`enqueue_pointer`).
abbrev pub enqueue_pointer : ℕ → Position → Pointer
enqueue_pointer base p = record { address = slot_address base p.place; cycle = p.cycle }

-- The address is that of one of the slots.
unfoldable pub is_slot : ℕ → ℕ → ℕ → Bool
is_slot base slots address = leb base address && eqb ((address - base) % 16) 0 && ltb ((address - base) / 16) slots

-- The slot that an address names, if it is one of the ring's.
unfoldable pub slot_of : ℕ → ℕ → ℕ → Option ℕ
slot_of base slots address = pick (is_slot base slots address) (Some ((address - base) / 16)) None

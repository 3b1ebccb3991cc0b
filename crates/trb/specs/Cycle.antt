-- The cycle rule of a ring, from the standard, 4.9.2 (transfer rings; 4.9.2.1 and 4.9.2.2 for its segments and pointers): a TRB belongs to the
-- consumer while its cycle bit equals the consumer's cycle state, and a producer stores a TRB with its own cycle state. Producer and consumer
-- go on alike: past a Link TRB to where it points, with the state toggled where the link says so, and past any other TRB by one slot.
use Rattle.std.specs.Prelude.{ℕ, ◌+◌, ◌-◌, ◌*◌, ◌/◌, ◌^◌, Bool, not, eqb}
use Rattle.std.specs.Bool.{beq}
use Rattle.base.specs.First.{pick}
use Rattle.base.specs.Fields.{bits}
use Rattle.trb.specs.declared.Words.{Words}

-- A producer's enqueue pointer with its cycle state, or a consumer's dequeue pointer with its: the slot in a segment, and the state.
pub record Pointer : Type 0 where
  pub slot : ℕ
  pub state : Bool

-- The cycle bit (bit 0 of w3), the type (bits 10-15), and of a link the toggle flag (bit 1) and the address that it points to.
unfoldable pub cycle_of : Words → Bool
cycle_of w = eqb (bits 0 1 w.w3) 1

unfoldable pub type_of : Words → ℕ
type_of w = bits 10 6 w.w3

unfoldable pub toggles : Words → Bool
toggles w = eqb (bits 1 1 w.w3) 1

unfoldable pub points_to : Words → ℕ
points_to w = bits 4 28 w.w0 * 16 + w.w1 * 2 ^ 32

-- The pointer past a TRB, in a segment at `base`.
unfoldable pub past : ℕ → Words → Pointer → Pointer
past base w p =
    pick (eqb (type_of w) 6)
    (record { slot = (points_to w - base) / 16; state = pick (toggles w) (not p.state) p.state })
    (record { slot = p.slot + 1; state = p.state })

-- The consumer may take the TRB that its pointer is at.
unfoldable pub owned : Words → Pointer → Bool
owned w p = beq (cycle_of w) p.state

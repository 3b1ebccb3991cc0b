-- Handing over an event: its place is filled. "other slot or endpoint id, or address not one of the L slots" is 11.
use Rattle.std.specs.Prelude.{ℕ, Bool, true, false, not, ◌&&◌, ◌||◌, List, [], ◌∷◌, eqb, length, Option, Some, None, Result, Ok, Err}
use Rattle.base.specs.First.{pick, first}
use Rattle.event.specs.Event.{event_of}
use Rattle.trb.specs.declared.Words.{Words}
use Rattle.ring.specs.Ring.{slot_of}
use Rattle.finished.specs.Finished.{fill_place}
use Rattle.dock.specs.declared.Endpoint.{Endpoint}
use Rattle.dock.specs.declared.Refusal.{Refusal}
use Rattle.dock.specs.Refusals.{refusal}
use Rattle.dock.specs.RowOne.{fits}
use Rattle.sizes.specs.Sizes.{ring_size}

abbrev pub is_outside : Option ℕ → Bool
is_outside (Some i) = false
is_outside None = true

abbrev pub slot_number : Option ℕ → ℕ
slot_number (Some i) = i
slot_number None = 0

-- The slot whose TRB an event is for.
unfoldable pub slot_for : Endpoint → Words → Option ℕ
slot_for e w = slot_of e.shape.base e.shape.slots (event_of w).address

-- Row 11: "event not type 32, other slot or endpoint id, or address not one of the L slots".
unfoldable pub foreign : Endpoint → Words → Bool
foreign e w =
    not (eqb (event_of w).form 32)
    || not (eqb (event_of w).slot e.who.slot)
    || not (eqb (event_of w).endpoint e.who.dci)
    || is_outside (slot_for e w)

unfoldable pub hand_over_tests : Endpoint → ℕ → Words → List (Bool × ℕ)
hand_over_tests e finished w =
    (not (fits e && eqb finished (ring_size e.shape.slots)), 1)
    ∷ (e.work.busy, 12)
    ∷ (foreign e w, 11)
    ∷ []

unfoldable pub hand_over_no : Endpoint → ℕ → Words → ℕ
hand_over_no e finished w = first (hand_over_tests e finished w)

unfoldable pub hand_over : Endpoint → List ℕ → Words → Result ℕ Refusal × List ℕ
hand_over e finished w =
    let no = hand_over_no e (length finished) w in
    pick (eqb no 0) (Ok (slot_number (slot_for e w)), fill_place finished (slot_number (slot_for e w)) w) (Err (refusal no), finished)

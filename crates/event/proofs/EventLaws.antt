-- The event reader reads what the standard's layout of a transfer event stores, whatever its cycle bit. Assumes nothing.
use Prim.Native.Nat.{ℕ, ◌+◌, ◌*◌, ◌^◌, ◌<◌}
use mathlib.Core.Bool.{Bool}
use mathlib.Core.Path.{◌≡◌, refl}
use native.Mathlib.Omega.{arith}
use Rattle.base.specs.Fields.{word}
use Rattle.base.proofs.ReadBack.{read_back_exact}
use Rattle.trb.specs.Layouts.{words_in, address_low, address_high}
use Rattle.event.specs.Event.{event_of, event_layout, EventFits}
use Rattle.event.specs.declared.Event.{Event}

halves : (address : ℕ) → address < 2 ^ 64 → word (address_low address) + word (address_high address) * 2 ^ 32 ≡ address
halves address fits = omega arith

pub event_reads : (e : Event) (cycle : Bool) → EventFits e → event_of (words_in (event_layout e cycle)) ≡ e
event_reads e cycle fits =
    let l = event_layout e cycle in
    rw (
      read_back_exact 0 32 l.w3 1 refl (omega arith) fits.form,
      read_back_exact 0 32 l.w3 3 refl (omega arith) fits.slot,
      read_back_exact 0 32 l.w3 2 refl (omega arith) fits.endpoint,
      halves e.address fits.address,
      read_back_exact 0 32 l.w2 0 refl (omega arith) fits.remaining,
      read_back_exact 0 32 l.w2 1 refl (omega arith) fits.code,
    )

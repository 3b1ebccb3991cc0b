-- The transfer event (6.4.2.1): what its four words say, and its layout. Document 01, "Words of a TRB".
use Rattle.std.specs.Prelude.{◌+◌, ◌*◌, ◌^◌, ◌<◌, Bool, [], ◌∷◌}
use Rattle.base.specs.Fields.{field, flag, bits}
use Rattle.trb.specs.declared.Words.{Words}
use Rattle.event.specs.declared.Event.{Event}
use Rattle.trb.specs.Layouts.{Layout, address_low, address_high}

-- An event as its four words have it.
abbrev pub event_of : Words → Event
event_of w =
    record {
      form = bits 10 6 w.w3;
      slot = bits 24 8 w.w3;
      endpoint = bits 16 5 w.w3;
      address = w.w0 + w.w1 * 2 ^ 32;
      remaining = bits 0 24 w.w2;
      code = bits 24 8 w.w2;
    }

-- The layout of an event, as the controller stores it.
abbrev pub event_layout : Event → Bool → Layout
event_layout e cycle =
    record {
      w0 = address_low e.address;
      w1 = address_high e.address;
      w2 = field 0 24 e.remaining ∷ field 24 8 e.code ∷ [];
      w3 = field 0 1 (flag cycle) ∷ field 10 6 e.form ∷ field 16 5 e.endpoint ∷ field 24 8 e.slot ∷ [];
    }

-- Each value fits its field.
pub record EventFits (e : Event) : Type 0 where
  pub form : e.form < 2 ^ 6
  pub slot : e.slot < 2 ^ 8
  pub endpoint : e.endpoint < 2 ^ 5
  pub address : e.address < 2 ^ 64
  pub remaining : e.remaining < 2 ^ 24
  pub code : e.code < 2 ^ 8

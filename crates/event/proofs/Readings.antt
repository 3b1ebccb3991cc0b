-- Events taken apart by the definition: that of document 01's worked session, and one whose bits are all set. Assumes nothing.
use Prim.Native.Nat.{◌-◌, ◌^◌}
use mathlib.Core.Path.{◌≡◌, refl}
use Rattle.event.specs.Event.{event_of}

-- 10020 0 1000000 1018000.
worked_event : event_of (record { w0 = 65568; w1 = 0; w2 = 16777216; w3 = 16875520 }) ≡ record { form = 32; slot = 1; endpoint = 1; address = 65568; remaining = 0; code = 1 }
worked_event = refl

-- ffffffff in all four words.
full_event : event_of (record { w0 = 4294967295; w1 = 4294967295; w2 = 4294967295; w3 = 4294967295 })
    ≡ record { form = 63; slot = 255; endpoint = 31; address = 2 ^ 64 - 1; remaining = 16777215; code = 255 }
full_event = refl

-- The burst counts of a length, a max packet size and a burst field, by the definition, one table: W7 of document 01 first, then the limits, then the ends of
-- one packet, one burst and two. Assumes nothing.
use Prim.Native.Nat.{◌-◌, ◌^◌}
use mathlib.Core.List.{List, [], ◌∷◌}
use mathlib.Core.Path.{◌≡◌, refl}
use Rattle.bursts.specs.Bursts.{packets_of, bursts_of}
use Rattle.bursts.specs.declared.Bursts.{Bursts}

-- W7: 4,096 bytes, max packet 1,024, burst 2: burst count 1, last-burst 0.
counts : List Bursts
counts =
    bursts_of 4096 1024 2
    ∷ bursts_of 65536 0 255
    ∷ bursts_of 65536 1 255
    ∷ bursts_of 65536 65535 255
    ∷ bursts_of 0 65535 0
    ∷ bursts_of (2 ^ 64 - 1) 1 0
    ∷ bursts_of 0 192 255
    ∷ bursts_of 192 192 15
    ∷ bursts_of 193 192 15
    ∷ bursts_of 3072 192 15
    ∷ bursts_of 3073 192 15
    ∷ bursts_of 6144 192 15
    ∷ bursts_of 3264 192 16
    ∷ bursts_of 6144 192 0
    ∷ bursts_of 6145 192 0
    ∷ []

counts_read : counts
    ≡ record { count = 1; last = 0 }
    ∷ record { count = 0; last = 0 }
    ∷ record { count = 31; last = 15 }
    ∷ record { count = 0; last = 1 }
    ∷ record { count = 0; last = 0 }
    ∷ record { count = 31; last = 0 }
    ∷ record { count = 0; last = 0 }
    ∷ record { count = 0; last = 0 }
    ∷ record { count = 0; last = 1 }
    ∷ record { count = 0; last = 15 }
    ∷ record { count = 1; last = 0 }
    ∷ record { count = 1; last = 15 }
    ∷ record { count = 0; last = 15 }
    ∷ record { count = 31; last = 0 }
    ∷ record { count = 31; last = 0 }
    ∷ []
unfolding bursts_of packets_of counts
counts_read = refl

-- Readings from the bench (document 01) that speak of words alone, computed by the definitions. Assumes nothing.
use Prim.Native.Nat.{ℕ, ◌-◌, ◌^◌}
use mathlib.Core.Bool.{true, false}
use mathlib.Core.List.{List, [], ◌∷◌}
use mathlib.Core.Path.{◌≡◌, refl}
use Rattle.trb.specs.Layouts.{words_of, listed}
use Rattle.trb.specs.declared.Trb.TheVariants.{Normal, Setup, Data, Status, Isoch, Link, ResetEndpoint, StopEndpoint, SetDequeue}

-- W5: bulk of 64, cycle 1: w3 00000425.
w5 : (address : ℕ) → (words_of (Normal address 64 0 0 true false true) true).w3 ≡ 1061
unfolding words_of
w5 address = refl

-- W6: in, 192 bytes, max packet 192, the last: 80001425; not the last: 80001625.
w6 : (address : ℕ) → (words_of (Isoch address 192 0 0 true false true false 0 0 true) true).w3 ≡ 2147488805
unfolding words_of
w6 address = refl

w6_more : (address : ℕ) → (words_of (Isoch address 192 0 0 true false true true 0 0 true) true).w3 ≡ 2147489317
unfolding words_of
w6_more address = refl

-- W7: 4,096 bytes, burst count 1: w2 00021000.
w7_word : (address : ℕ) → (words_of (Isoch address 4096 1 0 true false true false 0 0 true) true).w2 ≡ 135168
unfolding words_of
w7_word address = refl

-- W10: the stores of its control request: setup 00030840 (opposite cycle), the link, data 00010c04, status 00001020, setup 00030841.
w10_setup : listed (words_of (Setup 128 6 256 0 18 3) false) ≡ 16778880 ∷ 1179648 ∷ 8 ∷ 198720 ∷ []
unfolding words_of
w10_setup = refl

w10_link : listed (words_of (Link 65536 true false) true) ≡ 65536 ∷ 0 ∷ 0 ∷ 6147 ∷ []
unfolding words_of
w10_link = refl

w10_data : listed (words_of (Data 131072 18 true true) false) ≡ 131072 ∷ 0 ∷ 18 ∷ 68612 ∷ []
unfolding words_of
w10_data = refl

w10_status : listed (words_of (Status true false) false) ≡ 0 ∷ 0 ∷ 0 ∷ 4128 ∷ []
unfolding words_of
w10_status = refl

-- Every TRB with each field at its largest and cycle 1, one table: its four words, worked out by hand from document 01, "Words of a TRB".
top : ℕ
top = 2 ^ 64 - 1

largest : List (List ℕ)
largest =
    listed (words_of (Normal top 131071 31 1023 true true true) true)
    ∷ listed (words_of (Setup 255 255 65535 65535 65535 3) true)
    ∷ listed (words_of (Data top 131071 true true) true)
    ∷ listed (words_of (Status true true) true)
    ∷ listed (words_of (Isoch top 131071 31 1023 true true true true 15 2047 true) true)
    ∷ listed (words_of (Link top true true) true)
    ∷ listed (words_of (ResetEndpoint 31 255) true)
    ∷ listed (words_of (StopEndpoint 31 255) true)
    ∷ listed (words_of (SetDequeue top true 31 255) true)
    ∷ []

largest_read : largest
    ≡ (4294967295 ∷ 4294967295 ∷ 4294967295 ∷ 1077 ∷ [])
    ∷ (4294967295 ∷ 4294967295 ∷ 8 ∷ 198721 ∷ [])
    ∷ (4294967295 ∷ 4294967295 ∷ 131071 ∷ 68613 ∷ [])
    ∷ (0 ∷ 0 ∷ 0 ∷ 69665 ∷ [])
    ∷ (4294967295 ∷ 4294967295 ∷ 4294967295 ∷ 4294907445 ∷ [])
    ∷ (4294967280 ∷ 4294967295 ∷ 0 ∷ 6163 ∷ [])
    ∷ (0 ∷ 0 ∷ 0 ∷ 4280236033 ∷ [])
    ∷ (0 ∷ 0 ∷ 0 ∷ 4280237057 ∷ [])
    ∷ (4294967281 ∷ 4294967295 ∷ 0 ∷ 4280238081 ∷ [])
    ∷ []
unfolding words_of largest top
largest_read = refl

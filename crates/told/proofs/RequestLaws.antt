-- What the test of a request's words shows: of a control request those of the setup fit its fields. Assumes nothing.
use Prim.Native.Nat.{ℕ, ◌<◌, ◌^◌}
use mathlib.Core.Bool.{true, and-eq-true_iff}
use mathlib.Core.List.{List}
use mathlib.Core.Path.{◌≡◌}
use borrow.Author.Tests.{eq-eqb}
use lib.Dec.{eqb}
use lib.ListN.{length, get_or}
use Rattle.base.proofs.Decide.{Decides, by_ltb, both, reworded}
use Rattle.sizes.specs.Sizes.{control_number}
use Rattle.told.specs.Request.{request_words, is_setup, is_request, Setup}

pub by_setup : (w : List ℕ) → Decides (is_setup w) (Setup w)
by_setup w =
    reworded
    (λ (p : (((get_or w 2 0 < 2 ^ 8) × (get_or w 3 0 < 2 ^ 8)) × (get_or w 4 0 < 2 ^ 16)) × (get_or w 5 0 < 2 ^ 16)).
    record { type = p.0.0.0; request = p.0.0.1; value = p.0.1; index = p.1 })
    (λ (s : Setup w). (((s.type, s.request), s.value), s.index))
    (both (both (both (by_ltb (get_or w 2 0) (2 ^ 8)) (by_ltb (get_or w 3 0) (2 ^ 8))) (by_ltb (get_or w 4 0) (2 ^ 16))) (by_ltb (get_or w 5 0) (2 ^ 16)))

-- A control request's setup fits.
pub request_setup : (w : List ℕ) → is_request w ≡ true → get_or w 0 0 ≡ control_number → Setup w
unfolding is_request
request_setup w t kind = (by_setup w).so (rw (eq-eqb _ _ kind) at ((and-eq-true_iff (eqb (length w) request_words) _).0 t).1)

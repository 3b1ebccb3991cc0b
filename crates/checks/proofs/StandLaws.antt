-- What the refusals that passed tell: the endpoint fits, the records have their size, the producer's place has an address. Assumes nothing.
use Prim.Native.Nat.{ℕ, ◌+◌, ◌*◌, ◌^◌, ◌<◌}
use mathlib.Core.Bool.{true}
use mathlib.Core.List.{List}
use mathlib.Core.Path.{◌≡◌, refl}
use native.Mathlib.Omega.{arith}
use borrow.Author.Tests.{not-false}
use lib.ListN.{length}
use Rattle.base.proofs.Chosen.{quiet}
use Rattle.checks.proofs.Laws.{fit, fit_with}
use Rattle.dock.specs.Configure.{plain_tests, plain_no}
use Rattle.dock.specs.RowOne.{fits, fits_with}
use Rattle.sizes.specs.Sizes.{trb_bytes, records_size}
use Rattle.dock.specs.Reset.{begin_tests, begin_no}
use Rattle.dock.specs.Retire.{record_tests, record_no}
use Rattle.dock.specs.declared.Endpoint.{Endpoint}

pub plain_fits : (e : Endpoint) → plain_no e ≡ 0 → fits e ≡ true
unfolding plain_no plain_tests
plain_fits e passed = not-false _ (quiet (plain_tests e) 0 refl passed (omega arith))

pub record_fits : (e : Endpoint) (records : List ℕ) → record_no e records ≡ 0 → fits_with e records ≡ true
unfolding record_no record_tests
record_fits e records passed = not-false _ (quiet (record_tests e records) 0 refl passed (omega arith))

pub begin_fits : (e : Endpoint) (records : List ℕ) → begin_no e records ≡ 0 → fits e ≡ true
unfolding begin_no begin_tests
begin_fits e records passed = (fit_with e records (not-false _ (quiet (begin_tests e records) 0 refl passed (omega arith)))).fit

pub record_size : (e : Endpoint) (records : List ℕ) → record_no e records ≡ 0 → length records ≡ records_size
record_size e records passed = (fit_with e records (record_fits e records passed)).size

-- The place of an endpoint that fits has an address.
pub place_address : (e : Endpoint) → fits e ≡ true → e.shape.base + trb_bytes * e.at.place < 2 ^ 64
place_address e t = let f = fit e t in let l = f.limits in let p = f.places in omega (arith, l.base_room, p.here)

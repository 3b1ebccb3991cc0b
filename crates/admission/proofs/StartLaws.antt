-- The start of a submission: its tests as facts. Assumes nothing.
use Rattle.std.specs.Prelude.{Some}
use Prim.Native.Nat.{ℕ, ◌+◌, ◌-◌, ◌≤◌, ◌<◌}
use mathlib.Core.Bool.{Bool, true, false, ◌||◌, and-eq-true_iff}
use mathlib.Core.List.{List}
use mathlib.Core.Path.{◌≡◌, refl, sym, subst}
use native.Mathlib.Omega.{arith}
use borrow.Author.Tests.{ltb-false, eqb-true, not-false}
use lib.Dec.{eqb, ltb}
use lib.ListN.{length}
use Rattle.base.proofs.Chosen.{quiet}
use Rattle.sizes.specs.Sizes.{most_slots, capacity, record_count, packet_count, packets_size}
use Rattle.mask.specs.Occupancy.{lowest, Tells}
use Rattle.mask.specs.declared.Occupancy.{Occupancy}
use Rattle.mask.proofs.OccupancyLaws.{lowest_tells}
use Rattle.dock.specs.RowOne.{fits_with}
use Rattle.dock.specs.Requests.{given_of, required}
use Rattle.dock.specs.Start.{crowded, too_long, start_tests, start_no}
use Rattle.dock.specs.declared.Endpoint.{Endpoint}
use Rattle.dock.specs.declared.Request.{Request}
use Rattle.dock.specs.declared.What.{What}
use Rattle.dock.specs.declared.What.TheVariants.{Control, Bulk, Interrupt, Isoch}
use Rattle.checks.proofs.Laws.{fit, fit_with}
use Rattle.admission.specs.Admitted.{Admitted}

-- The record that is found is one of the table's.
pub found_within : (o : Occupancy) {i : ℕ} → Some i ≡ lowest o → i < record_count
found_within o e = (subst (Tells o) (sym e) (lowest_tells o)).within

-- ---- where no test holds

neither : (a b : Bool) → (a || b) ≡ false → a ≡ false
neither true b e = e
neither false b e = refl

few : (what : What) (size : ℕ) (lengths : List ℕ) → too_long what size lengths ≡ false → given_of what (length lengths) ≤ packet_count
unfolding too_long
few (Control type request value index) size lengths t = omega arith
few (Bulk incoming) size lengths t = omega arith
few (Interrupt incoming) size lengths t = omega arith
few (Isoch incoming) size lengths t = ltb-false _ _ (neither (ltb packet_count (length lengths)) _ (neither _ _ t))

room : (slots outstanding more : ℕ) → slots ≤ most_slots → crowded slots outstanding more ≡ false → outstanding + more ≤ capacity most_slots
unfolding crowded
room slots outstanding more h t = let l = ltb-false (slots - 2) (outstanding + more) t in omega arith

-- the start has what it needs
pub admitted : (e : Endpoint) (records : List ℕ) (packets : ℕ) (request : Request) (lengths : List ℕ)
    → start_no e records packets request lengths ≡ 0 → Admitted e (length records) packets request (length lengths)
unfolding start_no start_tests
admitted e records packets request lengths t =
    let ts = start_tests e records packets request lengths in
    let sizes = (and-eq-true_iff (fits_with e records) (eqb packets packets_size)).0 (not-false _ (quiet ts 0 refl t (omega arith))) in
    let whole = fit_with e records sizes.0 in
    let sound = fit e whole.fit in (
      whole.size,
      eqb-true _ _ sizes.1,
      sound.next,
      room e.shape.slots e.account.outstanding (required request (length lengths)) sound.limits.slots_most (quiet ts 3 refl t (omega arith)),
      few request.what request.length lengths (quiet ts 4 refl t (omega arith)),
    )

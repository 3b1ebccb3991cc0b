-- A retire, record by record: one more record is one more step. Assumes nothing.
use Prim.Native.Nat.{ℕ, ◌+◌, ◌-◌}
use mathlib.Core.List.{List}
use mathlib.Core.Path.{◌≡◌, refl, ap}
use native.Mathlib.Numerals.{add-one}
use Rattle.base.specs.First.{pick}
use Rattle.mask.specs.declared.Occupancy.{Occupancy}
use Rattle.records.specs.States.{stopped}
use Rattle.records.specs.Records.{state_word, record_at, set_word}
use Rattle.dock.specs.RowOne.{flies}
use Rattle.dock.specs.Retire.{retired_below}
use Rattle.retiring.specs.Steps.{retire_one}

module _ (occupancy : Occupancy) (outstanding : ℕ) (records : List ℕ) where
  pub retired_none : ◌≡◌ {A = ℕ × List ℕ} (outstanding, records) (retired_below 0 occupancy outstanding records)
  unfolding retired_below
  retired_none = refl

  pub retired_more : (r : ℕ) {out : ℕ} {l : List ℕ} → ◌≡◌ {A = ℕ × List ℕ} (out, l) (retired_below r occupancy outstanding records)
      → retire_one occupancy out l r ≡ retired_below (r + 1) occupancy outstanding records
  unfolding retired_below retire_one
  retired_more r e =
      rw (add-one r)
      (ap (λ (s : ℕ × List ℕ). pick (flies s.1 occupancy r) (s.0 - (record_at s.1 r).count, set_word s.1 r state_word stopped) s) e)

-- Numbers are kept in order, as many as there is room for; and packet lengths for which there is no room make no difference: with room for L-1 of them,
-- a request with more is refused by its start just as one with the first ones alone, with the same number. Assumes nothing.
use Rattle.std.specs.Prelude.{⊤, Err}
use Prim.Native.Nat.{ℕ, ◌+◌, ◌-◌, ◌≤◌, ◌<◌, max}
use mathlib.Core.Bool.{Bool, true, false, not, ◌&&◌}
use mathlib.Core.List.{List}
use mathlib.Core.Logic.{◌≢◌}
use mathlib.Core.Path.{◌≡◌, refl, sym, ◌∙◌}
use native.Mathlib.Omega.{arith}
use borrow.Author.Tests.{lt-ltb}
use lib.Dec.{eqb, ltb}
use lib.ListN.{length, get_or, set, take, length-take}
use lib.Seq.{get_or-set_same, get_or-set_other}
use Rattle.base.specs.First.{pick}
use Rattle.base.proofs.Chosen.{declines}
use Rattle.dock.specs.declared.After.{After}
use Rattle.dock.specs.Refusals.{refusal as refused}
use Rattle.dock.specs.declared.Endpoint.{Endpoint}
use Rattle.dock.specs.declared.Request.{Request}
use Rattle.dock.specs.declared.What.TheVariants.{Isoch}
use Rattle.dock.specs.RowOne.{fits_with}
use Rattle.sizes.specs.Sizes.{packets_size}
use Rattle.dock.specs.Requests.{with_what}
use Rattle.dock.specs.Start.{crowded, start_tests, start_no, start}
use Rattle.lines.specs.Reader.{keep}

-- A number for which there is room stands behind the others,
pub keep_new : (n v : ℕ) (values : List ℕ) → n < length values → ((keep n v values).0 ≡ n + 1) × (get_or (keep n v values).1 n 0 ≡ v)
unfolding keep
keep_new n v values h = rw (lt-ltb n (length values) h) (refl, get_or-set_same values n v 0 h)

-- which stay as they are.
pub keep_old : (n v : ℕ) (values : List ℕ) (i : ℕ) → i ≢ n → get_or (keep n v values).1 i 0 ≡ get_or values i 0
unfolding keep
keep_old n v values i d = by (ltb n (length values))
  where
    by : (b : Bool) → get_or (pick {A = ℕ × List ℕ} b (n + 1, set values n v) (n, values)).1 i 0 ≡ get_or values i 0
    by true = get_or-set_other values n i v 0 d
    by false = refl

-- ---- packet lengths without room

-- The number of a start whose capacity test holds.
abbrev crowded_no : Bool → Bool → Bool → ℕ
crowded_no unfit busy reset = pick unfit 1 (pick busy 12 (pick reset 2 2))

some_no : (a b c : Bool) → crowded_no a b c ≡ 0 → ⊥
some_no true b c e = omega arith
some_no false true c e = omega arith
some_no false false true e = omega arith
some_no false false false e = omega arith

module _ (e : Endpoint) (records packets : List ℕ) (request : Request) (incoming : Bool) where
  abbrev iso : Request
  iso = with_what request (Isoch incoming)

  abbrev refusal : After ⊤ × List ℕ × List ℕ
  refusal = (record { answer = Err (refused (crowded_no (not (fits_with e records && eqb (length packets) packets_size)) e.work.busy e.flags.reset)); endpoint = e }, records, packets)

  crowds : (lengths : List ℕ) → crowded e.shape.slots e.account.outstanding (max 1 (length lengths)) ≡ true
      → start e records packets iso lengths ≡ refusal
  unfolding start start_no start_tests
  crowds lengths full =
      let a = not (fits_with e records && eqb (length packets) packets_size) in
      rw full (declines _ _ (some_no a e.work.busy e.flags.reset))

  full_by : (lengths : List ℕ) → e.shape.slots - 1 ≤ length lengths → crowded e.shape.slots e.account.outstanding (max 1 (length lengths)) ≡ true
  unfolding crowded
  full_by lengths h = lt-ltb (e.shape.slots - 2) (e.account.outstanding + max 1 (length lengths)) (omega arith)

  -- With room for L-1 lengths at least, those beyond the room make no difference.
  pub lengths_without_room : (room : ℕ) (lengths : List ℕ) → e.shape.slots - 1 ≤ room → room ≤ length lengths
      → start e records packets iso (take room lengths) ≡ start e records packets iso lengths
  lengths_without_room room lengths h more =
      let some : length (take room lengths) ≡ room = length-take room lengths ∙ omega arith in
      crowds (take room lengths) (full_by (take room lengths) (omega (arith, some))) ∙ sym (crowds lengths (full_by lengths (omega arith)))

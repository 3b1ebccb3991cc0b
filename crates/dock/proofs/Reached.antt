-- The invariant of a dock's states, which `reached_sound` proves of those that are reached from making, and the induction over them. Assumes nothing.
use Prim.Native.Nat.{ℕ, ◌^◌, ◌<◌}
use mathlib.Core.Bool.{true}
use mathlib.Core.List.{List}
use mathlib.Core.Logic.{◌⊎◌}
use mathlib.Core.Path.{◌≡◌}
use lib.ListN.{length}
use Rattle.base.specs.First.{pick}
use Rattle.mask.specs.Bit.{sum}
use Rattle.mask.specs.Occupancy.{held, Sized}
use Rattle.mask.specs.declared.Occupancy.{Occupancy}
use Rattle.sizes.specs.Sizes.{ring_size, record_count, records_size, packets_size}
use Rattle.ids.specs.Free.{id_at}
use Rattle.records.specs.States.{in_flight, stopped}
use Rattle.records.specs.Records.{record_at}
use Rattle.dock.specs.declared.Account.{Account}
use Rattle.dock.specs.Limits.{limits_hold}
use Rattle.dock.specs.RowOne.{flies}
use Rattle.dock.specs.Run.{State, Made, Call, after, Reached, made, next}

-- ---- the invariant

-- What record r adds to outstanding: its TRBs while it is held and in flight.
unfoldable pub flight_part : List ℕ → Occupancy → ℕ → ℕ
flight_part records occupancy r = pick (flies records occupancy r) (record_at records r).count 0

-- "outstanding": the TRBs of all requests in flight.
unfoldable pub flight_sum : List ℕ → Occupancy → ℕ
flight_sum records occupancy = sum record_count (flight_part records occupancy)

-- The account and the records agree.
pub record Books (a : Account) (records : List ℕ) : Type 0 where
  pub next_above : 0 < a.next
  pub next_below : a.next < 2 ^ 64
  pub occupancy_sized : Sized a.occupancy
  -- every held record is in flight or stopped,
  pub states : (r : ℕ) → r < record_count → held a.occupancy r ≡ true → ((record_at records r).state ≡ in_flight) ⊎ ((record_at records r).state ≡ stopped)
  -- and has an id, from 1 to 2^64 - 1,
  pub id_above : (r : ℕ) → r < record_count → held a.occupancy r ≡ true → 0 < id_at records r
  pub id_below : (r : ℕ) → r < record_count → held a.occupancy r ≡ true → id_at records r < 2 ^ 64
  -- that no other held record has.
  pub distinct : (r q : ℕ) → r < record_count → q < record_count → held a.occupancy r ≡ true → held a.occupancy q ≡ true
      → id_at records r ≡ id_at records q → r ≡ q
  pub outstanding_sum : a.outstanding ≡ flight_sum records a.occupancy

-- A submission under way is that of a held record in flight.
pub record Underway (number : ℕ) (occupancy : Occupancy) (records : List ℕ) : Type 0 where
  pub within : number < record_count
  pub flying : flies records occupancy number ≡ true

pub record Sound (s : State) : Type 0 where
  pub limits : limits_hold s.endpoint.shape s.endpoint.who ≡ true
  pub ring_long : length s.ring ≡ ring_size s.endpoint.shape.slots
  pub finished_long : length s.finished ≡ ring_size s.endpoint.shape.slots
  pub records_long : length s.records ≡ records_size
  pub packets_long : length s.packets ≡ packets_size
  pub books : Books s.endpoint.account s.records
  pub underway : s.endpoint.work.busy ≡ true → Underway s.endpoint.work.number s.endpoint.account.occupancy s.records

-- ---- the induction

-- What every making that is done leaves, and every call keeps, holds in every state that is reached.
pub reached_has : {s : State} (P : State → Type 0) → ((s : State) → Made s → P s) → ((s : State) → Reached s → (c : Call) → P s → P (after s c))
    → Reached s → P s
reached_has P first then (made {s} m) = first s m
reached_has P first then (next {s} r c) = then s r c (reached_has P first then r)

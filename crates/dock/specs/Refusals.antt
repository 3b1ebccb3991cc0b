-- The refusals by document 01's numbers: "When the dock says no".
use Rattle.std.specs.Prelude.{ℕ, eqb, Result, Ok, Err, ⊤}
use Rattle.base.specs.First.{pick}
use Rattle.dock.specs.declared.Refusal.{Refusal}
use Rattle.dock.specs.declared.Refusal.TheVariants.{Unfit, QueueFull, TooLong, RecordsFull, OutOfReach, NotInFlight, NotUnderWay, ForeignEvent, Busy, OutsideLimits, Other}

-- The number of a refusal.
abbrev pub number : Refusal → ℕ
number Unfit = 1
number QueueFull = 2
number TooLong = 3
number RecordsFull = 4
number OutOfReach = 5
number NotInFlight = 6
number NotUnderWay = 10
number ForeignEvent = 11
number Busy = 12
number OutsideLimits = 13
number (Other n) = n

-- The refusal with a number. The tests of the calls have no other numbers than these (`row_number` of proofs/NumberLaws).
abbrev pub refusal : ℕ → Refusal
refusal n =
    pick (eqb n 1) Unfit
    (pick (eqb n 2) QueueFull
    (pick (eqb n 3) TooLong
    (pick (eqb n 4) RecordsFull
    (pick (eqb n 5) OutOfReach
    (pick (eqb n 6) NotInFlight
    (pick (eqb n 10) NotUnderWay
    (pick (eqb n 11) ForeignEvent
    (pick (eqb n 12) Busy OutsideLimits))))))))

-- A call without values that is done,
abbrev pub done : Result ⊤ Refusal
done = Ok _

-- and what tests say whose number is 0 where none of them holds.
abbrev pub verdict : ℕ → Result ⊤ Refusal
verdict n = pick (eqb n 0) done (Err (refusal n))

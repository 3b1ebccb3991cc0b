-- A run of a dock as data: its state, the calls of document 01 with their arguments, what each call leaves and answers, and the states that are reached from
-- making by any calls, refused or not.
use Rattle.std.specs.Prelude.{ℕ, Bool, List, ◌≡◌, ⊤}
use Rattle.trb.specs.declared.Words.{Words}
use Rattle.dock.specs.declared.After.{After}
use Rattle.dock.specs.Refusals.{done}
use Rattle.dock.specs.declared.Endpoint.{Endpoint}
use Rattle.dock.specs.declared.Identity.{Identity}
use Rattle.dock.specs.declared.Request.{Request}
use Rattle.dock.specs.declared.Shape.{Shape}
use Rattle.dock.specs.Make.{make}
use Rattle.dock.specs.Configure.{configure}
use Rattle.dock.specs.Start.{start}
use Rattle.dock.specs.NextStore.{store}
use Rattle.dock.specs.Submit.{submit}
use Rattle.dock.specs.HandOver.{hand_over}
use Rattle.dock.specs.Reclaim.{reclaim}
use Rattle.dock.specs.Cancel.{cancel}
use Rattle.dock.specs.Retire.{retire}
use Rattle.dock.specs.Reset.{begin_reset, end_reset}
use Rattle.dock.specs.Commands.{stop, resume, pointer}
use Rattle.dock.specs.Numbers.{Numbered, outcome_number, stored_number, submitted_number, taken_number, reclaimed_number, resetting_number, command_number, pointed_number}

-- ---- the state

-- An endpoint with its four tables.
pub record State : Type 0 where
  pub endpoint : Endpoint
  pub ring : List ℕ
  pub finished : List ℕ
  pub records : List ℕ
  pub packets : List ℕ

abbrev pub state_of : Endpoint → List ℕ → List ℕ → List ℕ → List ℕ → State
state_of e ring finished records packets =
    record { endpoint = e; ring = ring; finished = finished; records = records; packets = packets }

-- ---- making

-- The state of what making gives back.
abbrev pub made_of : After ⊤ × List ℕ × List ℕ × List ℕ × List ℕ → State
made_of m = state_of m.0.endpoint m.1 m.2 m.3 m.4

-- A state that a making leaves which is done.
pub data Made : State → Type 0 where
  making : (ring finished records packets : List ℕ) (shape : Shape) (who : Identity)
      → (make ring finished records packets shape who).0.answer ≡ done
      → Made (made_of (make ring finished records packets shape who))

-- ---- the calls

pub data Call : Type 0 where
  configures : (packet burst interval : ℕ) → Call
  starts : Request → (lengths : List ℕ) → Call
  stores : Call
  submits : Request → (lengths : List ℕ) → Call
  hands : (event : Words) → Call
  reclaims : (id : ℕ) → Call
  cancels : (id : ℕ) → Call
  retires : Call
  begins : Call
  ends : (worked : Bool) → Call
  stops : Call
  resumes : Call
  points : Call

-- The state that a call leaves. Stop, resume and pointer change nothing.
abbrev pub after : State → Call → State
after s (configures packet burst interval) =
    state_of (configure s.endpoint packet burst interval).endpoint s.ring s.finished s.records s.packets
after s (starts request lengths) =
    let a = start s.endpoint s.records s.packets request lengths in
    state_of a.0.endpoint s.ring s.finished a.1 a.2
after s stores =
    let a = store s.endpoint s.ring s.finished s.records s.packets in
    state_of a.0.endpoint a.1 a.2 s.records s.packets
after s (submits request lengths) =
    let a = submit s.endpoint s.ring s.finished s.records s.packets request lengths in
    state_of a.0.endpoint a.1 a.2 a.3 a.4
after s (hands event) =
    state_of s.endpoint s.ring (hand_over s.endpoint s.finished event).1 s.records s.packets
after s (reclaims id) =
    let a = reclaim s.endpoint s.finished s.records s.packets id in
    state_of a.0.endpoint s.ring s.finished a.1 a.2
after s (cancels id) = state_of s.endpoint s.ring s.finished (cancel s.endpoint s.records id).1 s.packets
after s retires =
    let a = retire s.endpoint s.records in
    state_of a.0.endpoint s.ring s.finished a.1 s.packets
after s begins = state_of (begin_reset s.endpoint s.records).endpoint s.ring s.finished s.records s.packets
after s (ends worked) = state_of (end_reset s.endpoint worked).endpoint s.ring s.finished s.records s.packets
after s stops = s
after s resumes = s
after s points = s

-- Its answer: the number and the values. The packet lengths of a reclaim that is done stand in the packet table that it leaves.
abbrev pub answered : State → Call → Numbered
answered s (configures packet burst interval) = outcome_number (configure s.endpoint packet burst interval).answer
answered s (starts request lengths) = outcome_number (start s.endpoint s.records s.packets request lengths).0.answer
answered s stores = stored_number (store s.endpoint s.ring s.finished s.records s.packets).0.answer
answered s (submits request lengths) =
    submitted_number (submit s.endpoint s.ring s.finished s.records s.packets request lengths).0.answer
answered s (hands event) = taken_number (hand_over s.endpoint s.finished event).0
answered s (reclaims id) = reclaimed_number (reclaim s.endpoint s.finished s.records s.packets id).0.answer
answered s (cancels id) = outcome_number (cancel s.endpoint s.records id).0
answered s retires = outcome_number (retire s.endpoint s.records).0.answer
answered s begins = resetting_number (begin_reset s.endpoint s.records).answer
answered s (ends worked) = outcome_number (end_reset s.endpoint worked).answer
answered s stops = command_number (stop s.endpoint)
answered s resumes = command_number (resume s.endpoint)
answered s points = pointed_number (pointer s.endpoint)

-- ---- reached from making

pub data Reached : State → Type 0 where
  made : {s : State} → Made s → Reached s
  next : {s : State} → Reached s → (c : Call) → Reached (after s c)

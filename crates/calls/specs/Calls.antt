-- The calls that lines make, each with what it writes: the endpoint and the page afterwards, and every table that the call is lent.
use Rattle.std.specs.Prelude.{ℕ, zero, suc, Bool, true, false, List, [], ◌∷◌, ⊤, Option, Result, Ok, Err}
use Rattle.base.specs.First.{pick}
use Rattle.dock.specs.declared.After.{After}
use Rattle.dock.specs.declared.ResetCommands.{ResetCommands}
use Rattle.dock.specs.declared.Refusal.{Refusal}
use Rattle.dock.specs.declared.Reclaimed.{Reclaimed}
use Rattle.dock.specs.declared.Stored.{Stored}
use Rattle.dock.specs.declared.Submitted.{Submitted}
use Rattle.dock.specs.declared.Stored.TheVariants as stored
use Rattle.dock.specs.declared.Endpoint.{Endpoint}
use Rattle.dock.specs.Numbers.{outcome_number}
use Rattle.dock.specs.declared.Request.{Request}
use Rattle.dock.specs.Configure.{configure}
use Rattle.dock.specs.Start.{start}
use Rattle.dock.specs.NextStore.{store}
use Rattle.dock.specs.Submit.{submit}
use Rattle.dock.specs.HandOver.{hand_over}
use Rattle.dock.specs.Reclaim.{reclaim}
use Rattle.dock.specs.Cancel.{cancel}
use Rattle.dock.specs.Retire.{retire}
use Rattle.dock.specs.Reset.{begin_reset, end_reset}
use Rattle.dock.specs.Commands.{stop, resume, pointer}
use Rattle.page.specs.Page.{Page, put_all}
use Rattle.phrases.specs.Text.{refusal_line, outcome_line, cut_line, stored_lines, submitted_line, taken_line, reclaimed_line, resetting_lines, commanded_line, pointed_line}
use Rattle.values.specs.declared.Turn.{Turn}
use Rattle.calls.specs.declared.StoreTurn.{StoreTurn}
use Rattle.values.specs.declared.Next.TheVariants.{On}
use Rattle.values.specs.Values.{value, byte, half, event_of}

-- set, begun, retired, ended.
abbrev pub set_text : List ℕ
set_text = 115 ∷ 101 ∷ 116 ∷ []

abbrev pub begun_text : List ℕ
begun_text = 98 ∷ 101 ∷ 103 ∷ 117 ∷ 110 ∷ []

abbrev pub retired_text : List ℕ
retired_text = 114 ∷ 101 ∷ 116 ∷ 105 ∷ 114 ∷ 101 ∷ 100 ∷ []

abbrev pub ended_text : List ℕ
ended_text = 101 ∷ 110 ∷ 100 ∷ 101 ∷ 100 ∷ []

-- The endpoint, and that the session goes on.
abbrev pub turn : Endpoint → Turn
turn e = record { e = e; next = On }

-- What follows a call that is lent no table,
abbrev pub told : Endpoint → Page → Turn × Page
told e q = (turn e, q)

abbrev pub changed_by : List ℕ → Page → After ⊤ → Turn × Page
changed_by name p c = told c.endpoint (put_all p (outcome_line name c.answer))

unfoldable pub configured : Endpoint → List ℕ → Page → Turn × Page
configured e values p = changed_by set_text p (configure e (half (value values 0)) (byte (value values 1)) (byte (value values 2)))

unfoldable pub ended : Endpoint → Bool → Page → Turn × Page
ended e worked p = changed_by ended_text p (end_reset e worked)

unfoldable pub stopped : Endpoint → Page → Turn × Page
stopped e p = told e (put_all p (commanded_line (stop e)))

unfoldable pub resumed : Endpoint → Page → Turn × Page
resumed e p = told e (put_all p (commanded_line (resume e)))

unfoldable pub pointed : Endpoint → Page → Turn × Page
pointed e p = told e (put_all p (pointed_line (pointer e)))

abbrev pub reset_by : Page → After (Option ResetCommands) → Turn × Page
reset_by p b = told b.endpoint (put_all p (resetting_lines b.answer))

unfoldable pub reset : Endpoint → List ℕ → Page → Turn × Page
reset e records p = reset_by p (begin_reset e records)

-- one that is lent a table,
abbrev pub handed_by : Endpoint → Page → Result ℕ Refusal × List ℕ → Turn × List ℕ × Page
handed_by e p t = (turn e, t.1, put_all p (taken_line t.0))

unfoldable pub handed : Endpoint → List ℕ → List ℕ → Page → Turn × List ℕ × Page
handed e finished values p = handed_by e p (hand_over e finished (event_of values))

abbrev pub cancelled_by : Endpoint → ℕ → Page → Result ⊤ Refusal × List ℕ → Turn × List ℕ × Page
cancelled_by e id p t = (turn e, t.1, put_all p (cut_line id t.0))

unfoldable pub cancelled : Endpoint → List ℕ → ℕ → Page → Turn × List ℕ × Page
cancelled e records id p = cancelled_by e id p (cancel e records id)

abbrev pub retired_by : Page → After ⊤ × List ℕ → Turn × List ℕ × Page
retired_by p t = (turn t.0.endpoint, t.1, put_all p (outcome_line retired_text t.0.answer))

unfoldable pub retired : Endpoint → List ℕ → Page → Turn × List ℕ × Page
retired e records p = retired_by p (retire e records)

-- and one that is lent two.
abbrev pub reclaimed_by : Page → After Reclaimed × List ℕ × List ℕ → Turn × List ℕ × List ℕ × Page
reclaimed_by p t = (turn t.0.endpoint, t.1, t.2, put_all p (reclaimed_line t.2 t.0.answer))

unfoldable pub reclaimed : Endpoint → List ℕ → List ℕ → List ℕ → ℕ → Page → Turn × List ℕ × List ℕ × Page
reclaimed e finished records packets id p = reclaimed_by p (reclaim e finished records packets id)

abbrev pub begun_by : Page → After ⊤ × List ℕ × List ℕ → Turn × List ℕ × List ℕ × Page
begun_by p t = (turn t.0.endpoint, t.1, t.2, put_all p (outcome_line begun_text t.0.answer))

unfoldable pub begun : Endpoint → List ℕ → List ℕ → Request → List ℕ → Page → Turn × List ℕ × List ℕ × Page
begun e records packets request lengths p = begun_by p (start e records packets request lengths)

-- A store, and whether more are to come.
abbrev pub goes_on : Result Stored Refusal → Bool
goes_on (Ok (stored.Slot slot)) = true
goes_on (Ok (stored.Last slot id bell)) = false
goes_on (Err why) = false

abbrev pub stored_by : Page → After Stored × List ℕ × List ℕ → StoreTurn × List ℕ × List ℕ × Page
stored_by p t =
    (record { e = t.0.endpoint; more = goes_on t.0.answer }, t.1, t.2, put_all p (stored_lines t.1 t.0.answer))

unfoldable pub stored_one : Endpoint → List ℕ → List ℕ → List ℕ → List ℕ → Page → StoreTurn × List ℕ × List ℕ × Page
stored_one e ring finished records packets p = stored_by p (store e ring finished records packets)

-- The stores that are left of a submission, in order, at most so many.
abbrev pub stores_by : StoreTurn × List ℕ × List ℕ × Page → (Endpoint → List ℕ → List ℕ → Page → Turn × List ℕ × List ℕ × Page) → Turn × List ℕ × List ℕ × Page
stores_by t rest = pick t.0.more (rest t.0.e t.1 t.2 t.3) (turn t.0.e, t.1, t.2, t.3)

unfoldable pub stores : ℕ → Endpoint → List ℕ → List ℕ → List ℕ → List ℕ → Page → Turn × List ℕ × List ℕ × Page
stores zero e ring finished records packets p = (turn e, ring, finished, p)
stores (suc n) e ring finished records packets p =
    stores_by (stored_one e ring finished records packets p) (λ e ring finished p. stores n e ring finished records packets p)

-- A request: its start, and its stores in order. 64 TRBs and a link, or three, a link and a setup: no submission has more.
abbrev pub most_stores : ℕ
most_stores = 66

abbrev pub asked_by : Result ⊤ Refusal → Endpoint → List ℕ → List ℕ → List ℕ → List ℕ → Page → Turn × List ℕ × List ℕ × List ℕ × List ℕ × Page
asked_by (Err why) e ring finished records packets p =
    (turn e, ring, finished, records, packets, put_all p (refusal_line (outcome_number (Err why))))
asked_by (Ok u) e ring finished records packets p =
    let t = stores most_stores e ring finished records packets p in (t.0, t.1, t.2, records, packets, t.3)

unfoldable pub asked : Endpoint → List ℕ → List ℕ → List ℕ → List ℕ → Request → List ℕ → Page → Turn × List ℕ × List ℕ × List ℕ × List ℕ × Page
asked e ring finished records packets request lengths p =
    let s = start e records packets request lengths in
    asked_by s.0.answer s.0.endpoint ring finished s.1 s.2 p

-- The whole submission in one call.
abbrev pub submitted_by : Page → After Submitted × List ℕ × List ℕ × List ℕ × List ℕ → Turn × List ℕ × List ℕ × List ℕ × List ℕ × Page
submitted_by p t = (turn t.0.endpoint, t.1, t.2, t.3, t.4, put_all p (submitted_line t.0.answer))

unfoldable pub submitted : Endpoint → List ℕ → List ℕ → List ℕ → List ℕ → Request → List ℕ → Page → Turn × List ℕ × List ℕ × List ℕ × List ℕ × Page
submitted e ring finished records packets request lengths p = submitted_by p (submit e ring finished records packets request lengths)

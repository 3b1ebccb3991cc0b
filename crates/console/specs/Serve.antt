-- What a line does where a ring is made: the endpoint, every table and the page afterwards, and how the session goes on. (`step`, the one line that
-- moves the controller, is in `Walk`.)
use Rattle.std.specs.Prelude.{ℕ, Bool, true, false, List, Option, None, Some}
use Rattle.base.specs.First.{pick}
use Rattle.dock.specs.declared.Endpoint.{Endpoint}
use Rattle.page.specs.Page.{Page}
use Rattle.words.specs.declared.Word.{Word}
use Rattle.words.specs.declared.Word.TheVariants as words
use Rattle.lines.specs.declared.Line.{Line}
use Rattle.lines.specs.declared.Reading.{Reading}
use Rattle.lines.specs.Reader.{line_of}
use Rattle.values.specs.declared.Next.TheVariants.{On, Bad}
use Rattle.values.specs.declared.Turn.{Turn}
use Rattle.values.specs.Values.{value, flagged, request_of, lengths_of, is_bad}
use Rattle.bench.specs.Bench.{leaves, serve_poke, is_tool, serve_tools}
use Rattle.calls.specs.Calls.{configured, ended, stopped, resumed, pointed, reset, handed, cancelled, retired, reclaimed, begun, stored_one, asked, submitted}

-- Everything: ring, finished table, records, packets and page behind it.
abbrev pub All : Type 0
All = Turn × List ℕ × List ℕ × List ℕ × List ℕ × Page

-- ---- a drive's own words

-- `begin` or `whole`, and a request.
abbrev pub begins : Option Word → Bool
begins (Some words.Begin) = true
begins before = false

unfoldable pub serve_named : Endpoint → List ℕ → List ℕ → List ℕ → List ℕ → Line → List ℕ → Page → All
serve_named e ring finished records packets l values p =
    let request = request_of l.word values in
    let lengths = lengths_of l.word values l.count in
    let b = begun e records packets request lengths p in
    pick (begins l.before)
    (b.0, ring, finished, b.1, b.2, b.3)
    (submitted e ring finished records packets request lengths p)

-- The calls that a drive adds and that are lent the records at most.
unfoldable pub is_call : Word → Bool
is_call words.Configure = true
is_call words.Retire = true
is_call words.Stop = true
is_call words.Resume = true
is_call words.Reset = true
is_call words.End = true
is_call words.Pointer = true
is_call w = false

unfoldable pub serve_calls : Endpoint → List ℕ → Word → List ℕ → Page → Turn × List ℕ × Page
serve_calls e records words.Configure values p = let a = configured e values p in (a.0, records, a.1)
serve_calls e records words.Retire values p = retired e records p
serve_calls e records words.Stop values p = let a = stopped e p in (a.0, records, a.1)
serve_calls e records words.Resume values p = let a = resumed e p in (a.0, records, a.1)
serve_calls e records words.Reset values p = let a = reset e records p in (a.0, records, a.1)
serve_calls e records words.End values p = let a = ended e (flagged (value values 0)) p in (a.0, records, a.1)
serve_calls e records w values p = let a = pointed e p in (a.0, records, a.1)

-- ---- a session's words

-- A word, and how many numbers stand.
abbrev pub session_by : Word → ℕ → Endpoint → List ℕ → List ℕ → List ℕ → List ℕ → List ℕ → Page → All
session_by words.Event count e ring finished records packets values p =
    let a = handed e finished values p in (a.0, ring, a.1, records, packets, a.2)
session_by words.Reclaim count e ring finished records packets values p =
    let a = reclaimed e finished records packets (value values 0) p in (a.0, ring, finished, a.1, a.2, a.3)
session_by words.Cancel count e ring finished records packets values p =
    let a = cancelled e records (value values 0) p in (a.0, ring, finished, a.1, packets, a.2)
session_by w count e ring finished records packets values p =
    asked e ring finished records packets (request_of w values) (lengths_of w values count) p

unfoldable pub serve_session : Endpoint → List ℕ → List ℕ → List ℕ → List ℕ → Line → List ℕ → Page → All
serve_session e ring finished records packets l values p = session_by l.word l.count e ring finished records packets values p

-- ---- every word

abbrev pub is_store : Word → Bool
is_store words.Store = true
is_store w = false

-- A line's first word.
unfoldable pub serve_alone : Endpoint → List ℕ → List ℕ → List ℕ → List ℕ → Line → List ℕ → Page → All
serve_alone e ring finished records packets l values p =
    let w = l.word in
    let a = stored_one e ring finished records packets p in
    let b = serve_calls e records w values p in
    let d = serve_tools e ring w values p in
    pick (is_store w) (leaves a.0.e On, a.1, a.2, records, packets, a.3)
    (pick (is_call w) (b.0, ring, finished, b.1, packets, b.2)
    (pick (is_tool w) (d.0, ring, finished, records, packets, d.1) (serve_session e ring finished records packets l values p)))

-- A line with a ring made, by the word before its word.
abbrev pub serve_behind : Option Word → Endpoint → List ℕ → List ℕ → List ℕ → List ℕ → Line → List ℕ → Page → All
serve_behind None e ring finished records packets l values p = serve_alone e ring finished records packets l values p
serve_behind (Some words.Poke) e ring finished records packets l values p =
    let a = serve_poke e ring finished records packets l.word values in (a.0, a.1, a.2, a.3, a.4, p)
serve_behind (Some before) e ring finished records packets l values p = serve_named e ring finished records packets l values p

abbrev pub serve_by : Option Line → Endpoint → List ℕ → List ℕ → List ℕ → List ℕ → List ℕ → Page → All
serve_by None e ring finished records packets values p = (leaves e Bad, ring, finished, records, packets, p)
serve_by (Some l) e ring finished records packets values p = serve_behind l.before e ring finished records packets l values p

unfoldable pub serve : Endpoint → List ℕ → List ℕ → List ℕ → List ℕ → Reading → List ℕ → Page → All
serve e ring finished records packets r values p =
    pick (is_bad r) (leaves e Bad, ring, finished, records, packets, p) (serve_by (line_of r) e ring finished records packets values p)

-- The line that steps the controller: `step`, and no word before it.
abbrev pub steps : Option Word → Word → Bool
steps None words.Step = true
steps before w = false

abbrev pub step_by : Option Line → Bool
step_by None = false
step_by (Some l) = steps l.before l.word

unfoldable pub is_step : Reading → Bool
is_step r = step_by (line_of r)

-- Whatever a line writes, it writes by putting a text on the page (`line_puts`, `step_puts`), so that nothing of it is left out (`page`, `nothing_lost`).
-- Assumes nothing.
use Rattle.std.specs.Prelude.{Result, ⊤, Err, Ok}
use Prim.Native.Nat.{ℕ, zero, suc, ◌/◌}
use mathlib.Core.Bool.{Bool, true, false}
use mathlib.Core.List.{List, [], ◌++◌}
use mathlib.Core.Path.{◌≡◌, refl}
use Rattle.std.proofs.Common.{Option, Some, None}
use lib.Dec.{ltb}
use lib.ListN.{length}
use Rattle.base.specs.First.{pick}
use Rattle.controller.specs.Rule.{step}
use Rattle.controller.specs.declared.Consumer.{Consumer}
use Rattle.controller.specs.declared.Step.{Step}
use Rattle.controller.specs.declared.Step.TheVariants.{Nothing, Linked, Took}
use Rattle.dock.specs.declared.Endpoint.{Endpoint}
use Rattle.dock.specs.declared.Refusal.{Refusal}
use Rattle.dock.specs.Start.{start}
use Rattle.page.specs.Page.{Page, put_all}
use Rattle.page.proofs.PageLaws.{then}
use Rattle.words.specs.declared.Word.{Word}
use Rattle.words.specs.declared.Word.TheVariants as words
use Rattle.lines.specs.declared.Line.{Line}
use Rattle.lines.specs.declared.Reading.{Reading}
use Rattle.lines.specs.Reader.{line_of}
use Rattle.values.specs.declared.Turn.{Turn}
use Rattle.values.specs.Values.{value, request_of, lengths_of, is_bad}
use Rattle.bench.specs.Bench.{is_tool, serve_slot, serve_tools}
use Rattle.bench.specs.Walk.{stride_by, stride, walk_by, walk, walked}
use Rattle.calls.specs.Calls.{configured, ended, stopped, resumed, pointed, reset, handed, cancelled, retired, reclaimed, begun, stored_one, stores, most_stores}
use Rattle.calls.specs.Calls.{asked_by, asked, submitted}
use Rattle.console.specs.Serve.{All, serve_named, is_call, serve_calls, session_by, serve_session, begins, is_store, serve_alone, serve_behind, serve_by, serve}

-- The second page is the first with a text on it.
pub record Put (p q : Page) : Type 0 where
  pub text : List ℕ
  pub placed : q ≡ put_all p text

-- A text, none, and one behind another.
puts : (p : Page) (text : List ℕ) → Put p (put_all p text)
puts p text = record { text = text; placed = refl }

nothing : (p : Page) → Put p p
unfolding put_all
nothing p = record { text = []; placed = refl }

more : {p q s : Page} → Put p q → Put q s → Put p s
more {p} a b = record { text = a.text ++ b.text; placed = then p a.text b.text a.placed b.placed }

-- What holds of both holds of the one that a test picks.
by_test : {A : Type 0} (P : A → Type 0) (b : Bool) {x y : A} → P x → P y → P (pick b x y)
by_test P true h k = h
by_test P false h k = k

-- ---- the calls

module _ (e : Endpoint) (p : Page) where
  -- Behind a call: the page afterwards.
  abbrev One : Turn × Page → Type 0
  One t = Put p t.1

  abbrev Two : Turn × List ℕ × Page → Type 0
  Two t = Put p t.2

  abbrev Everything : All → Type 0
  Everything t = Put p t.5

  tools_put : (ring : List ℕ) (w : Word) (values : List ℕ) → One (serve_tools e ring w values p)
  unfolding serve_tools serve_slot
  tools_put ring words.Slot values = by_test One (ltb (value values 0) (length ring / 4)) (puts p _) (nothing p)
  tools_put ring words.State values = puts p _
  tools_put ring words.NextId values = nothing p
  tools_put ring w values = nothing p

  calls_put : (records : List ℕ) (w : Word) (values : List ℕ) → Two (serve_calls e records w values p)
  unfolding serve_calls configured ended stopped resumed pointed reset retired
  calls_put records words.Configure values = puts p _
  calls_put records words.Retire values = puts p _
  calls_put records words.Stop values = puts p _
  calls_put records words.Resume values = puts p _
  calls_put records words.Reset values = puts p _
  calls_put records words.End values = puts p _
  calls_put records w values = puts p _

-- The stores of a request, each with its line.
stores_put : (n : ℕ) (e : Endpoint) (ring finished records packets : List ℕ) (p : Page)
    → Put p (stores n e ring finished records packets p).3
unfolding stores stored_one
stores_put zero e ring finished records packets p = nothing p
stores_put (suc n) e ring finished records packets p =
    let t = stored_one e ring finished records packets p in
    by_test (λ (u : Turn × List ℕ × List ℕ × Page). Put p u.3) t.0.more
    (more (puts p _) (stores_put n t.0.e t.1 t.2 records packets t.3))
    (puts p _)

asked_put : (a : Result ⊤ Refusal) (e : Endpoint) (ring finished records packets : List ℕ) (p : Page) → Everything e p (asked_by a e ring finished records packets p)
asked_put (Err row) e ring finished records packets p = puts p _
asked_put (Ok u) e ring finished records packets p = stores_put most_stores e ring finished records packets p

-- ---- every line

module _ (e : Endpoint) (ring finished records packets values : List ℕ) (p : Page) where
  -- A session's word, and how many numbers stand.
  session_put : (w : Word) (count : ℕ) → Everything e p (session_by w count e ring finished records packets values p)
  unfolding handed reclaimed cancelled asked
  session_put words.Event count = puts p _
  session_put words.Reclaim count = puts p _
  session_put words.Cancel count = puts p _
  session_put w count =
      let s = start e records packets (request_of w values) (lengths_of w values count) in
      asked_put s.0.answer s.0.endpoint ring finished s.1 s.2 p

  module _ (l : Line) where
    alone_put : Everything e p (serve_alone e ring finished records packets l values p)
    unfolding serve_alone serve_session stored_one
    alone_put =
        by_test (Everything e p) (is_store l.word) (puts p _)
        (by_test (Everything e p) (is_call l.word) (calls_put e p records l.word values)
        (by_test (Everything e p) (is_tool l.word) (tools_put e p ring l.word values) (session_put l.word l.count)))

    named_put : Everything e p (serve_named e ring finished records packets l values p)
    unfolding serve_named begun submitted
    named_put = by_test (Everything e p) (begins l.before) (puts p _) (puts p _)

    -- By the word before its word. A poke writes nothing.
    behind_put : (before : Option Word) → Everything e p (serve_behind before e ring finished records packets l values p)
    behind_put None = alone_put
    behind_put (Some words.Poke) = nothing p
    behind_put (Some before) = named_put

  said_put : (l : Option Line) → Everything e p (serve_by l e ring finished records packets values p)
  said_put None = nothing p
  said_put (Some l) = behind_put l l.before

-- A line that is served.
pub line_puts : (e : Endpoint) (ring finished records packets : List ℕ) (r : Reading) (values : List ℕ) (p : Page)
    → Put p (serve e ring finished records packets r values p).5
unfolding serve
line_puts e ring finished records packets r values p =
    by_test (Everything e p) (is_bad r) (nothing p) (said_put e ring finished records packets values p (line_of r))

-- ---- the controller's line

stride_put : (a : Step) (slot : ℕ) (after : Consumer) (p : Page) → Put p (stride_by a slot after p).1
stride_put Nothing slot after p = nothing p
stride_put Linked slot after p = nothing p
stride_put (Took w) slot after p = puts p _

strode : (ring : List ℕ) (c : Consumer) (p : Page) → Put p (stride ring c p).1
unfolding stride
strode ring c p =
    by_test (λ (t : Option Consumer × Page). Put p t.1) (ltb c.slot (length ring / 4))
    (stride_put (step ring c).step c.slot (step ring c).after p)
    (nothing p)

-- What follows a step puts more on the page, or nothing follows it.
followed : (a : Option Consumer) (c : Consumer) {p : Page} (q : Page) (rest : Consumer → Page → Consumer × Page)
    → Put p q → ((c : Consumer) → Put q (rest c q).1) → Put p (walk_by a c q rest).1
followed None c q rest put next = put
followed (Some after) c q rest put next = more put (next after)

walk_put : (n : ℕ) (ring : List ℕ) (c : Consumer) (p : Page) → Put p (walk n ring c p).1
unfolding walk
walk_put zero ring c p = nothing p
walk_put (suc n) ring c p =
    let s = stride ring c p in followed s.0 c s.1 (λ c p. walk n ring c p) (strode ring c p) (λ c. walk_put n ring c s.1)

-- `step`, with the line that says where the controller stands.
pub step_puts : (n : ℕ) (ring : List ℕ) (c : Consumer) (p : Page) → Put p (walked n ring c p).1
unfolding walked
step_puts n ring c p = more (walk_put n ring c p) (puts _ _)

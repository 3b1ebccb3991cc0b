-- The whole submission: the start, and its stores in order.
use Rattle.std.specs.Prelude.{ℕ, zero, suc, ◌+◌, Bool, not, ◌&&◌, List, ◌∷◌, eqb, length, Result, Ok, Err}
use Rattle.base.specs.First.{pick, first}
use Rattle.sizes.specs.Sizes.{ring_size}
use Rattle.dock.specs.declared.Endpoint.{Endpoint}
use Rattle.dock.specs.declared.Request.{Request}
use Rattle.dock.specs.declared.Stored.{Stored}
use Rattle.dock.specs.declared.Refusal.{Refusal}
use Rattle.dock.specs.declared.After.{After}
use Rattle.dock.specs.declared.Submitted.{Submitted}
use Rattle.dock.specs.declared.Stored.TheVariants as stored
use Rattle.dock.specs.Refusals.{refusal}
use Rattle.dock.specs.Requests.{required}
use Rattle.dock.specs.Start.{start_tests, start}
use Rattle.dock.specs.NextStore.{store}

-- ---- the refusals

-- "tables of the wrong size": also the ring's and the finished table's, for no store could follow; then the start's refusals.
unfoldable pub submit_tests : Endpoint → ℕ → ℕ → List ℕ → ℕ → Request → List ℕ → List (Bool × ℕ)
submit_tests e ring finished records packets request lengths =
    (not (eqb ring (ring_size e.shape.slots) && eqb finished (ring_size e.shape.slots)), 1)
    ∷ start_tests e records packets request lengths

unfoldable pub submit_no : Endpoint → ℕ → ℕ → List ℕ → ℕ → Request → List ℕ → ℕ
submit_no e ring finished records packets request lengths = first (submit_tests e ring finished records packets request lengths)

-- ---- the stores

-- What follows a store: the next ones, until the last has answered.
abbrev pub after_store : Result Stored Refusal → Endpoint → List ℕ → List ℕ → (Endpoint → List ℕ → List ℕ → After Submitted × List ℕ × List ℕ) → After Submitted × List ℕ × List ℕ
after_store (Ok (stored.Slot slot)) e ring finished more = more e ring finished
after_store (Ok (stored.Last slot id bell)) e ring finished more = (record { answer = Ok (record { id = id; bell = bell }); endpoint = e }, ring, finished)
after_store (Err row) e ring finished more = (record { answer = Err row; endpoint = e }, ring, finished)

-- The stores that are left, in order, at most so many.
unfoldable pub finish : ℕ → Endpoint → List ℕ → List ℕ → List ℕ → List ℕ → After Submitted × List ℕ × List ℕ
finish zero e ring finished records packets = (record { answer = Err (refusal 1); endpoint = e }, ring, finished)
finish (suc n) e ring finished records packets =
    let s = store e ring finished records packets in
    after_store s.0.answer s.0.endpoint s.1 s.2 (λ e ring finished. finish n e ring finished records packets)

-- A request's stores: its TRBs, a link, and the first TRB again. "the whole is proved equal to its stores in order."
abbrev pub most_stores : Request → ℕ → ℕ
most_stores request count = required request count + 2

-- All tables, as the whole submission leaves them.
abbrev pub joined : After Submitted × List ℕ × List ℕ → List ℕ → List ℕ → After Submitted × List ℕ × List ℕ × List ℕ × List ℕ
joined s records packets = (s.0, s.1, s.2, records, packets)

-- ---- the call

unfoldable pub submit : Endpoint → List ℕ → List ℕ → List ℕ → List ℕ → Request → List ℕ → After Submitted × List ℕ × List ℕ × List ℕ × List ℕ
submit e ring finished records packets request lengths =
    let no = submit_no e (length ring) (length finished) records (length packets) request lengths in
    let s = start e records packets request lengths in
    pick (eqb no 0)
    (joined (finish (most_stores request (length lengths)) s.0.endpoint ring finished s.1 s.2) s.1 s.2)
    (record { answer = Err (refusal no); endpoint = e }, ring, finished, records, packets)

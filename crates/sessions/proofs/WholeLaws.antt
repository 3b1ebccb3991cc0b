-- The line of a request that is admitted makes all of its stores: it leaves the endpoint, the ring and every table as the whole submission does in one
-- call, and nothing is under way afterwards (`line_is_whole`, `line_settles`). Assumes nothing.
use Rattle.std.specs.Prelude.{Result, Ok, Err, ⊤}
use Prim.Native.Nat.{ℕ, zero, suc, ◌≤◌}
use mathlib.Core.Bool.{Bool, true, false, ◌||◌, false≢true}
use mathlib.Core.List.{List}
use mathlib.Core.Path.{◌≡◌, refl, sym, ap, ◌∙◌}
use native.Mathlib.Omega.{arith}
use borrow.Author.Tests.{ltb-false}
use lib.Dec.{eqb, ltb}
use lib.ListN.{length}
use Rattle.base.specs.First.{pick}
use Rattle.dock.specs.declared.After.{After}
use Rattle.dock.specs.declared.Submitted.{Submitted}
use Rattle.dock.specs.declared.Stored.{Stored}
use Rattle.dock.specs.declared.Refusal.{Refusal}
use Rattle.dock.specs.declared.Stored.TheVariants as stored
use Rattle.dock.specs.declared.Endpoint.{Endpoint}
use Rattle.dock.specs.declared.Request.{Request}
use Rattle.dock.specs.declared.What.{What}
use Rattle.dock.specs.declared.What.TheVariants.{Control, Bulk, Interrupt, Isoch}
use Rattle.sizes.specs.Sizes.{ring_size, packet_count}
use Rattle.dock.specs.Requests.{count_for}
use Rattle.dock.specs.Start.{some_over, sum_of, too_long, start_no, started_endpoint, started_records, write_packets, record_taken, id_taken}
use Rattle.dock.specs.State.{idle}
use Rattle.dock.specs.NextStore.{store}
use Rattle.dock.specs.Submit.{after_store, finish, most_stores}
use Rattle.dock.proofs.SubmitEndLaws.{start_finishes}
use Rattle.dock.proofs.RefusalLaws.{start_acts}
use Rattle.dock.proofs.StartLaws.{start_admitted}
use Rattle.page.specs.Page.{Page, put_all}
use Rattle.phrases.specs.Text.{stored_lines}
use Rattle.values.specs.declared.Turn.{Turn}
use Rattle.calls.specs.Calls.{stored_by, stored_one, stores_by, stores, asked_by, asked}

-- The same endpoint, ring and finished table.
pub record Same (x : After Submitted × List ℕ × List ℕ) (y : Turn × List ℕ × List ℕ × Page) : Type 0 where
  pub endpoint : y.0.e ≡ x.0.endpoint
  pub ring : y.1 ≡ x.1
  pub finished : y.2 ≡ x.2

-- What follows a store, in the whole submission and in the line's.
abbrev left : ℕ → List ℕ → List ℕ → Result Stored Refusal → After Stored × List ℕ × List ℕ → After Submitted × List ℕ × List ℕ
left n records packets a s = after_store a s.0.endpoint s.1 s.2 (λ e ring finished. finish n e ring finished records packets)

abbrev line : ℕ → List ℕ → List ℕ → Result Stored Refusal → After Stored × List ℕ × List ℕ → Page → Turn × List ℕ × List ℕ × Page
line m records packets a s p =
    stores_by (stored_by p (record { answer = a; endpoint = s.0.endpoint }, s.1, s.2)) (λ e ring finished p. stores m e ring finished records packets p)

module _ (records packets : List ℕ) (id bell : ℕ) where
  one : (n m : ℕ) (s : After Stored × List ℕ × List ℕ) (p : Page) (a : Result Stored Refusal)
      → (left n records packets a s).0.answer ≡ Ok (record { id = id; bell = bell })
      → ((p : Page) → (finish n s.0.endpoint s.1 s.2 records packets).0.answer ≡ Ok (record { id = id; bell = bell })
      → Same (finish n s.0.endpoint s.1 s.2 records packets) (stores m s.0.endpoint s.1 s.2 records packets p))
      → Same (left n records packets a s) (line m records packets a s p)
  one n m s p (Ok (stored.Slot slot)) e more = more (put_all p (stored_lines s.1 (Ok (stored.Slot slot)))) e
  one n m s p (Ok (stored.Last slot i b)) e more = record { endpoint = refl; ring = refl; finished = refl }
  one n m s p (Err number) e more = let z : ◌≡◌ {A = ℕ} 0 1 = cc in absurd (omega arith)

  -- Stores that end are the line's too, with as many turns or more.
  follows : (n m : ℕ) → n ≤ m → (e : Endpoint) (ring finished : List ℕ) (p : Page) → (finish n e ring finished records packets).0.answer ≡ Ok (record { id = id; bell = bell })
      → Same (finish n e ring finished records packets) (stores m e ring finished records packets p)
  unfolding finish stores stored_one
  follows zero m few e ring finished p d = let z : ◌≡◌ {A = ℕ} 0 1 = cc in absurd (omega arith)
  follows (suc n) zero few e ring finished p d = absurd (omega arith)
  follows (suc n) (suc m) few e ring finished p d =
      let s = store e ring finished records packets in
      one n m s p s.0.answer d (λ q k. follows n m (omega arith) s.0.endpoint s.1 s.2 q k)

-- ---- a request has few TRBs

either_false : (a b : Bool) → (a || b) ≡ false → (a ≡ false) × (b ≡ false)
either_false true b e = absurd (false≢true (sym e))
either_false false b e = (refl, e)

two_or_three : (b : Bool) → pick b 2 3 ≤ packet_count
two_or_three true = omega arith
two_or_three false = omega arith

few : (what : What) (size : ℕ) (lengths : List ℕ) → too_long what size lengths ≡ false → count_for what size (length lengths) ≤ packet_count
unfolding too_long
few (Control type request value index) size lengths t = two_or_three (eqb size 0)
few (Bulk incoming) size lengths t = omega arith
few (Interrupt incoming) size lengths t = omega arith
few (Isoch incoming) size lengths t =
    let first = (either_false (ltb packet_count (length lengths) || some_over lengths) (ltb size (sum_of lengths)) t).0 in
    omega (arith, ltb-false packet_count (length lengths) (either_false (ltb packet_count (length lengths)) (some_over lengths) first).0)

-- ---- the line

module _ (e : Endpoint) (ring finished records packets : List ℕ) (request : Request) (lengths : List ℕ) (p : Page)
    (passed : start_no e records (length packets) request lengths ≡ 0)
    (ring_size_lem : length ring ≡ ring_size e.shape.slots) (finished_size : length finished ≡ ring_size e.shape.slots) where
  abbrev begun : Endpoint
  begun = started_endpoint e records request lengths

  abbrev written : List ℕ
  written = started_records e records request lengths

  abbrev given : List ℕ
  given = write_packets packets (record_taken e) request.what lengths

  abbrev whole : After Submitted × List ℕ × List ℕ
  whole = finish (most_stores request (length lengths)) begun ring finished written given

  -- The line's stores leave what those of the whole submission leave,
  pub line_is_whole : Same whole (stores 66 begun ring finished written given p)
  line_is_whole =
      let short = few request.what request.length lengths (start_admitted e records packets request lengths passed).short in
      let ended = start_finishes e ring finished records packets request lengths passed ring_size_lem finished_size in
      follows written given (id_taken e records) begun.who.dci (most_stores request (length lengths)) 66 (omega arith) begun ring finished p ended.answer

  -- and nothing is under way afterwards.
  pub line_settles : (asked e ring finished records packets request lengths p).0.e.work ≡ idle
  unfolding asked
  line_settles =
      let ended = start_finishes e ring finished records packets request lengths passed ring_size_lem finished_size in
      ap (λ (s : After ⊤ × List ℕ × List ℕ). (asked_by s.0.answer s.0.endpoint ring finished s.1 s.2 p).0.e.work)
      (start_acts e records packets request lengths passed)
      ∙ ap (λ (x : Endpoint). x.work) line_is_whole.endpoint
      ∙ ended.work

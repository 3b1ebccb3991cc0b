-- A whole submission is a start and stores: what every start and every store keeps, it keeps (`submit_keeps`). Assumes nothing.
use Rattle.std.specs.Prelude.{Result, Ok, Err}
use Prim.Native.Nat.{ℕ, zero, suc}
use mathlib.Core.List.{List}
use lib.Dec.{eqb}
use lib.ListN.{length}
use Rattle.dock.specs.declared.Endpoint.{Endpoint}
use Rattle.dock.specs.declared.Request.{Request}
use Rattle.dock.specs.declared.Stored.{Stored}
use Rattle.dock.specs.declared.Refusal.{Refusal}
use Rattle.dock.specs.declared.After.{After}
use Rattle.dock.specs.declared.Submitted.{Submitted}
use Rattle.dock.specs.declared.Stored.TheVariants as store
use Rattle.dock.specs.NextStore as storing
use Rattle.dock.specs.Submit.{submit_no, finish, most_stores, submit}
use Rattle.dock.specs.Submit as submitting
use Rattle.dock.specs.Run.{State, state_of, starts, stores, submits, after}
use Rattle.dock.proofs.RetireLaws.{picked}

module _ (P : State → Type 0) (stored : (s : State) → P s → P (after s stores)) where
  -- What follows a store, by its answer: the next stores, or the end.
  by_stored : (x : Result Stored Refusal) (s : State) (more : Endpoint → List ℕ → List ℕ → After Submitted × List ℕ × List ℕ) → P s
      → (let m = more s.endpoint s.ring s.finished in P (state_of m.0.endpoint m.1 m.2 s.records s.packets))
      → let a = submitting.after_store x s.endpoint s.ring s.finished more in P (state_of a.0.endpoint a.1 a.2 s.records s.packets)
  by_stored (Ok (store.Slot slot)) s more h m = m
  by_stored (Ok (store.Last slot id bell)) s more h m = h
  by_stored (Err number) s more h m = h

  -- The stores that are left, in order.
  finish_keeps : (n : ℕ) (s : State) → P s
      → let a = finish n s.endpoint s.ring s.finished s.records s.packets in P (state_of a.0.endpoint a.1 a.2 s.records s.packets)
  unfolding finish
  finish_keeps zero s h = h
  finish_keeps (suc n) s h =
      let a = storing.store s.endpoint s.ring s.finished s.records s.packets in
      by_stored a.0.answer (after s stores) (λ e ring finished. finish n e ring finished s.records s.packets) (stored s h)
      (finish_keeps n (after s stores) (stored s h))

  pub submit_keeps : (s : State) (request : Request) (lengths : List ℕ) → P s → P (after s (starts request lengths)) → P (after s (submits request lengths))
  unfolding submit
  submit_keeps s request lengths h started =
      picked (λ (x : After Submitted × List ℕ × List ℕ × List ℕ × List ℕ). P (state_of x.0.endpoint x.1 x.2 x.3 x.4))
      (eqb (submit_no s.endpoint (length s.ring) (length s.finished) s.records (length s.packets) request lengths) 0) _ _
      (λ t. finish_keeps (most_stores request (length lengths)) (after s (starts request lengths)) started)
      (λ t. h)

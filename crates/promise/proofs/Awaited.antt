-- The TRBs behind the last one that an event came for are those of requests in flight: so they are at most as many as are outstanding, which is at most
-- L-2. And TRB number n, once consumed, was consumed at the slot of number n. Assumes nothing.
use Prim.Native.Nat.{ℕ, zero, suc, ◌+◌, ◌<◌, ◌≤◌}
use mathlib.Core.List.{List, [], ◌∷◌, ◌++◌}
use mathlib.Core.Path.{◌≡◌, refl, sym, ap, ◌∙◌}
use native.Mathlib.Nat.{add-zero, add-suc, suc-add}
use native.Mathlib.Omega.{arith}
use lib.ListN.{length, length-append}
use Rattle.mask.specs.declared.Occupancy.{Occupancy}
use Rattle.sizes.specs.Sizes.{record_count}
use Rattle.trb.specs.declared.Words.{Words}
use Rattle.dock.proofs.ReachedBookLaws.{by_flies, part_flies}
use Rattle.dock.proofs.Reached.{flight_part, flight_sum, Sound}
use Rattle.order.specs.Flat.{flat}
use Rattle.order.specs.Model.{layout}
use Rattle.order.specs.Model as model
use Rattle.order.proofs.Index.{pos, settle_slot}
use Rattle.order.proofs.Moves.{length_layout}
use Rattle.order.proofs.Order.{Front, inv_in_order}
use Rattle.promise.specs.Controller.{Entry}
use Rattle.promise.specs.Run.{World, slot_at}
use Rattle.promise.proofs.Counting.{covered}
use Rattle.promise.proofs.Laid.{bared, bared_length}
use Rattle.promise.proofs.Kept.{position_of, model_in, Kept, Flights}

-- ---- how many wait for an event

pub in_flight_lem : (K : ℕ) (records : List ℕ) (occupancy : Occupancy) (first : ℕ → ℕ) (total heard : ℕ) → Flights K records occupancy first total heard
    → total ≤ heard + flight_sum records occupancy
unfolding flight_sum
in_flight_lem K records occupancy first total heard f =
    covered record_count first (flight_part records occupancy) heard total
    (λ j h l.
    let o = f.all j h l in
    let fly = (by_flies records occupancy o.owner).so o.flying in
    record {
      owner = o.owner;
      within = o.within;
      from = o.from;
      to = omega (arith, o.to, part_flies records occupancy o.owner fly.0 fly.1);
    })

pub awaited : (w : World) → Sound w.dock → Kept w → length w.trbs ≤ w.heard + w.dock.endpoint.account.outstanding
awaited w h k =
    omega (
      arith,
      h.books.outstanding_sum,
      in_flight_lem k.K w.dock.records w.dock.endpoint.account.occupancy w.first (length w.trbs) w.heard k.flights,
    )

-- ---- where TRB number n was consumed

slot_front : (a b : List Entry) (n : ℕ) → n < length a → slot_at (a ++ b) n ≡ slot_at a n
slot_front [] b n l = absurd (omega arith)
slot_front (e ∷ a) b zero l = refl
slot_front (e ∷ a) b (suc n) l = slot_front a b n (omega arith)

slot_laid : (K m n : ℕ) (xs : List Words) → n < length xs → slot_at (layout (flat K) (pos K m) xs) n ≡ (pos K (m + n)).place
slot_laid K m n [] l = absurd (omega arith)
slot_laid K m zero (x ∷ xs) l = ap (λ (i : ℕ). (pos K i).place) (sym (add-zero m))
slot_laid K m (suc n) (x ∷ xs) l = slot_laid K (suc m) n xs (omega arith) ∙ ap (λ (i : ℕ). (pos K i).place) (suc-add m n ∙ sym (add-suc m n))

module _ (w : World) (k : Kept w) where
  front : Front w.consumed (layout (flat k.K) (pos k.K 0) (bared w.trbs))
  front = inv_in_order (model_in k.K w k.before k.work) k.inv

  -- No more is consumed than admitted.
  pub consumed_few : length w.consumed ≤ length w.trbs
  consumed_few =
      omega (
        arith,
        length-append w.consumed front.rest,
        ap length front.whole,
        length_layout (flat k.K) (pos k.K 0) (bared w.trbs),
        bared_length w.trbs,
      )

  pub consumed_at : (n : ℕ) → n < length w.consumed → slot_at w.consumed n ≡ (pos k.K n).place
  consumed_at n l =
      let zero-on : 0 + n ≡ n = omega arith in
      sym (slot_front w.consumed front.rest n l)
      ∙ ap (λ (x : List Entry). slot_at x n) front.whole
      ∙ slot_laid k.K 0 n (bared w.trbs) (omega (arith, consumed_few, bared_length w.trbs))
      ∙ ap (λ (i : ℕ). (pos k.K i).place) zero-on

  -- ---- where the producer stands

  -- Off the link it stands at the slot of the next TRB's number.
  pub next_at : (w.dock.endpoint.at.place ≡ k.K → ⊥) → (pos k.K k.stored).place ≡ w.dock.endpoint.at.place
  next_at off =
      let same : k.numbered.stored ≡ k.stored = omega (arith, k.numbered.split, k.split, bared_length w.trbs) in
      sym
      (ap (λ (p : model.Position). p.place)
      (sym (settle_slot k.K (position_of w.dock.endpoint.at) off) ∙ k.numbered.next_at ∙ ap (pos k.K) same))

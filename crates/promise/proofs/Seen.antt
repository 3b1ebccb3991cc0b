-- A request in flight is over only where an event stands in the place of its last TRB, if every event that stands anywhere is coded Success or Short
-- Packet. Assumes nothing.
use Rattle.std.specs.Prelude.{Option, Some, None}
use Prim.Native.Nat.{ℕ, zero, suc, ◌+◌, ◌-◌, ◌<◌}
use mathlib.Core.Bool.{Bool, true, false, ◌||◌}
use mathlib.Core.List.{List}
use mathlib.Core.Logic.{◌⊎◌, inl, inr, ⊎_elim}
use mathlib.Core.Path.{◌≡◌, refl, ap}
use native.Mathlib.Nat.{mod-lt, mod-eq_of_lt}
use native.Mathlib.Omega.{arith}
use borrow.Author.Tests.{eqb-true}
use lib.Dec.{eqb}
use Rattle.base.specs.First.{pick}
use Rattle.base.proofs.Decide.{by_eqb, either}
use Rattle.trb.specs.declared.Words.{Words}
use Rattle.finished.specs.Finished.{finished_at}
use Rattle.packets.specs.Packets.{packet_at, put_packet}
use Rattle.records.specs.Kinds.{kind_is, control, bulk, interrupt, isoch}
use Rattle.records.proofs.KindLaws.{kind_true, by_kind}
use Rattle.records.specs.declared.Record.{Record}
use Rattle.dock.specs.declared.Endpoint.{Endpoint}
use Rattle.dock.specs.declared.After.{After}
use Rattle.dock.specs.declared.Reclaimed.{Reclaimed}
use Rattle.dock.specs.Reclaim.{nothing, code_of, remaining_of, place_of, bulk_by, reclaim_bulk, onward, stage_by, status_by, recorded_by, status_place, data_place, data_seen, reclaim_control, counted, close_below, Swept, unfinished, found, swept_by, swept_at, sweep, swept_answer, reclaim_iso, reclaim_flying}
use Rattle.dock.specs.Worth.{accepted, counts, bytes}
use Rattle.dock.proofs.ReclaimAnswerLaws.{worth_counts}
use Rattle.dock.proofs.RetireLaws.{picked}
use Rattle.promise.proofs.Kept.{Counts}

-- An accepted code counts for a packet too.
accepted_counts : (code : ℕ) → accepted code ≡ true → counts code ≡ true
unfolding accepted counts
accepted_counts code t =
    ⊎_elim
    (λ (q : code ≡ 1). rw q)
    (λ (q : code ≡ 13). rw q)
    ((either (by_eqb code 1) (by_eqb code 13)).so t)

-- An event stands in the place of the last TRB.
pub record Over (slots : ℕ) (finished : List ℕ) (v : Record) : Type 0 where
  pub event : Words
  pub there : finished_at finished (place_of slots v.place (v.count - 1)) ≡ Some event

module _ (K : ℕ) (some_place : 0 < K) (e : Endpoint) (shape : e.shape.slots ≡ suc K) (finished : List ℕ)
    (fine : (i : ℕ) (event : Words) → i < K → finished_at finished i ≡ Some event → accepted (code_of event) ≡ true)
    (v : Record) (low : v.place < K) (number : ℕ) where
  abbrev Ends : Type 0
  Ends = Over e.shape.slots finished v

  abbrev pub Out : After Reclaimed → Type 0
  Out x = (x ≡ nothing e) ⊎ Ends

  place_low : (k : ℕ) → place_of e.shape.slots v.place k < K
  unfolding place_of
  place_low k =
      let same : e.shape.slots - 1 ≡ K = omega arith in
      rw same (mod-lt (v.place + k) some_place)

  first_place : place_of e.shape.slots v.place 0 ≡ v.place
  unfolding place_of
  first_place =
      let same : e.shape.slots - 1 ≡ K = omega arith in
      let none : v.place + 0 ≡ v.place = omega arith in
      rw (same, none) (mod-eq_of_lt low)

  -- An event found at TRB k, which is the last.
  over_at : (k : ℕ) (event : Words) → k + 1 ≡ v.count → finished_at finished (place_of e.shape.slots v.place k) ≡ Some event → Ends
  over_at k event last said =
      let same : v.count - 1 ≡ k = omega arith in
      record { event = event; there = rw same said }

  -- ---- bulk and interrupt

  by_bulk : v.count ≡ 1 → (f : Option Words) → finished_at finished v.place ≡ f → Out (bulk_by f e v number)
  by_bulk one None said = inl refl
  by_bulk one (Some event) said = inr (over_at 0 event (omega arith) (rw first_place said))

  bulk_out : v.count ≡ 1 → Out (reclaim_bulk e finished v number)
  unfolding reclaim_bulk
  bulk_out one = by_bulk one (finished_at finished v.place) refl

  -- ---- control: no stage ends it but the status

  passes : (f : Option Words) → ((event : Words) → f ≡ Some event → accepted (code_of event) ≡ true) → stage_by f e v number ≡ onward
  passes None ok = refl
  passes (Some event) ok = rw (ok event refl)

  data_fine : (event : Words) → data_seen e finished v ≡ Some event → accepted (code_of event) ≡ true
  data_fine event =
      picked (λ (f : Option Words). f ≡ Some event → accepted (code_of event) ≡ true) (eqb v.length 0) None
      (finished_at finished (data_place e v))
      (λ t q. let z : ◌≡◌ {A = ℕ} 0 1 = cc in absurd (omega arith))
      (λ t q. fine (data_place e v) event (place_low 1) q)

  last_of_control : (b : Bool) → v.count ≡ pick b 2 3 → pick b 1 2 + 1 ≡ v.count
  last_of_control true q = omega arith
  last_of_control false q = omega arith

  by_status : v.count ≡ pick (eqb v.length 0) 2 3 → (f : Option Words) (recorded : ℕ) → finished_at finished (status_place e v) ≡ f
      → Out (status_by f e v number recorded)
  by_status two None recorded said = inl refl
  by_status two (Some event) recorded said = inr (over_at (pick (eqb v.length 0) 1 2) event (last_of_control (eqb v.length 0) two) said)

  control_out : v.count ≡ pick (eqb v.length 0) 2 3 → (records : List ℕ) → Out (reclaim_control e finished records v number).0
  unfolding reclaim_control
  control_out two records =
      rw (passes (finished_at finished v.place) (λ event q. fine v.place event low q), passes (data_seen e finished v) data_fine)
      (by_status two (finished_at finished (status_place e v)) (recorded_by (data_seen e finished v) v) refl)

  -- ---- ISO: the walk ends at the last packet, and at its event

  abbrev Walked : Swept × List ℕ → Type 0
  Walked s = (s.0 ≡ unfinished) ⊎ Ends

  module _ (k : ℕ) (packets : List ℕ) (more : List ℕ → Swept × List ℕ) (onwards : (after : List ℕ) → Walked (more after)) where
    by_event : (event : Words) → finished_at finished (place_of e.shape.slots v.place k) ≡ Some event → (n : ℕ)
        → Walked (swept_by e.shape.slots finished v number (bytes n) (code_of event) k packets more)
    by_event event said n =
        let marked = put_packet packets number k (counted (packet_at packets number k) n) in
        elim (eqb (k + 1) v.count) as
        (λ (b : Bool).
        eqb (k + 1) v.count ≡ b
        → (let s : Swept × List ℕ = elim b [ true ↦ (found (code_of event), close_below k marked number) | false ↦ more marked ] in Walked s)) [
          | true ↦ (λ q. inr (over_at k event (eqb-true _ _ q) said))
          | false ↦ (λ q. onwards marked)
        ] refl

    by_place : (f : Option Words) → finished_at finished (place_of e.shape.slots v.place k) ≡ f
        → Walked (swept_at e.shape.slots finished v number f k packets more)
    by_place None said = onwards packets
    by_place (Some event) said =
        let asked = (packet_at packets number k).requested in
        rw (worth_counts asked (remaining_of event) (code_of event)
        (accepted_counts (code_of event) (fine (place_of e.shape.slots v.place k) event (place_low k) said)))
        (by_event event said (asked - remaining_of event))

  walked : (n k : ℕ) (packets : List ℕ) → Walked (sweep e.shape.slots finished v number n k packets)
  unfolding sweep
  walked zero k packets = inl refl
  walked (suc n) k packets =
      elim (packet_at packets number k).marked as
      (λ (b : Bool).
      let s : Swept × List ℕ = elim b [
        | true ↦ sweep e.shape.slots finished v number n (k + 1) packets
        | false ↦ swept_at e.shape.slots finished v number (finished_at finished (place_of e.shape.slots v.place k)) k packets (λ l. sweep e.shape.slots finished v number n (k + 1) l)
      ] in
      Walked s) [
        | true ↦ walked n (k + 1) packets
        | false ↦ by_place k packets (λ l. sweep e.shape.slots finished v number n (k + 1) l) (λ after. walked n (k + 1) after) (finished_at finished (place_of e.shape.slots v.place k)) refl
      ]

  iso_out : (packets : List ℕ) → Out (reclaim_iso e finished packets v number).0
  unfolding reclaim_iso
  iso_out packets =
      let s = sweep e.shape.slots finished v number v.count 0 packets in
      ⊎_elim
      (λ (q : s.0 ≡ unfinished). inl (ap (λ (x : Swept). swept_answer x e v number s.1) q))
      (λ (o : Ends). inr o)
      (walked v.count 0 packets)

  -- ---- any kind

  pub flying_out : Counts v → (records packets : List ℕ) → Out (reclaim_flying e finished records packets v number).0
  unfolding reclaim_flying
  flying_out c records packets =
      picked (λ (x : After Reclaimed × List ℕ × List ℕ). Out x.0) (kind_is v.kind control) _ _
      (λ t. control_out (c.of_control (kind_true v.kind control t)) records)
      (λ t. picked (λ (x : After Reclaimed × List ℕ × List ℕ). Out x.0) (kind_is v.kind isoch) _ _
      (λ s. iso_out packets)
      (λ s. picked (λ (x : After Reclaimed × List ℕ × List ℕ). Out x.0) (kind_is v.kind bulk || kind_is v.kind interrupt) _ _
      (λ u. bulk_out
      (⊎_elim (λ (q : v.kind ≡ bulk). c.of_bulk q) (λ (q : v.kind ≡ interrupt). c.of_interrupt q)
      ((either (by_kind v.kind bulk) (by_kind v.kind interrupt)).so u)))
      (λ u. inl refl)))

-- In every state that is reached from making with nothing under way, a bulk, interrupt or control request that is reclaimed by its id and done is told
-- exactly the bytes that a controller moved, for every event that the standard lets it write; and it can write one for any bytes up to those asked for.
-- Assumes nothing.
use Rattle.std.specs.Prelude.{Some, None}
use Prim.Native.Nat.{ℕ, ◌+◌, ◌^◌, ◌≤◌, ◌<◌}
use mathlib.Core.Bool.{true, false}
use mathlib.Core.List.{[]}
use mathlib.Core.Logic.{◌⊎◌, ⊎_elim}
use mathlib.Core.Path.{◌≡◌, sym, ap, ◌∙◌, subst}
use native.Mathlib.Omega.{arith}
use Rattle.sizes.specs.Sizes.{record_count, packet_count}
use Rattle.trb.specs.declared.Words.{Words}
use Rattle.finished.specs.Finished.{finished_at}
use Rattle.packets.specs.Packets.{packet_at}
use Rattle.records.specs.Kinds.{control, bulk, interrupt, isoch}
use Rattle.records.specs.States.{in_flight}
use Rattle.records.specs.Records.{record_at}
use Rattle.records.specs.declared.Record.{Record}
use Rattle.dock.specs.declared.Endpoint.{Endpoint}
use Rattle.dock.specs.declared.After.{After}
use Rattle.dock.specs.declared.Reclaimed.{Reclaimed}
use Rattle.dock.specs.Numbers.{reclaimed_number}
use Rattle.dock.specs.Worth.{accepted}
use Rattle.dock.specs.Residual.{Told, Tells, Writes}
use Rattle.dock.specs.Reclaim.{code_of, remaining_of, data_place, status_place, data_seen}
use Rattle.dock.specs.Run.{State, reclaims, after, answered, Reached, next}
use Rattle.dock.proofs.ReachedSoundLaws.{reached_sound}
use Rattle.dock.proofs.ReachedFitLaws.{reclaim_number}
use Rattle.dock.proofs.ReachedLengthLaws.{reached_brief}
use Rattle.dock.proofs.ReachedPacketLaws.{reached_modest}
use Rattle.dock.proofs.ReachedRecordLaws.{Same, Since, since_reached, since_stays}
use Rattle.dock.proofs.ReclaimOnceLaws.{Has, held_found}
use Rattle.dock.proofs.ReclaimResidualLaws.{can_write}
use Rattle.dock.proofs.ReclaimBytesLaws.{done_with, Due, Passes, bulk_exact, data_exact, recorded_told, unheard_told, moved_recorded, data_waits, kind_kept}

-- A controller can tell of any bytes of a packet that it moved,
pub packet_writes : {s : State} → Reached s → (r k : ℕ) → r < record_count → k < packet_count → (t : Told) (n : ℕ) → n ≤ (packet_at s.packets r k).requested
    → (field : ℕ) × Writes t (packet_at s.packets r k).requested field n
packet_writes {s} h r k l small t n most = can_write t (packet_at s.packets r k).requested n (omega (arith, reached_modest h r k l small)) most

-- and of any other request's.
pub record_writes : {s : State} → Reached s → (r : ℕ) → r < record_count → ((record_at s.records r).kind ≡ isoch → ⊥)
    → (t : Told) (n : ℕ) → n ≤ (record_at s.records r).length → (field : ℕ) × Writes t (record_at s.records r).length field n
record_writes {s} h r l other t n most = can_write t (record_at s.records r).length n (omega (arith, (reached_brief h r l).0 other)) most

module _ {s : State} (h : Reached s) (idle : s.endpoint.work.busy ≡ false) (id r : ℕ) (l : r < record_count) (has : Has s id r)
    (flying : (record_at s.records r).state ≡ in_flight) (wanted : (record_at s.records r).cancelled ≡ false) where
  abbrev e : Endpoint
  e = s.endpoint

  abbrev v : Record
  v = record_at s.records r

  due : Due e s.finished s.records s.packets id r
  due = record { admitted = reclaim_number h id ∙ rw idle; holder = held_found s (reached_sound h) id r l has; flying = flying; wanted = wanted }

  -- ---- bulk and interrupt

  pub reached_bulk : (v.kind ≡ bulk) ⊎ (v.kind ≡ interrupt) → (w : Words) → finished_at s.finished v.place ≡ Some w → accepted (code_of w) ≡ true
      → (t : Told) (n : ℕ) → Tells (code_of w) t → Writes t v.length (remaining_of w) n → answered s (reclaims id) ≡ done_with v id n
  reached_bulk = bulk_exact e s.finished s.records s.packets id r due

  -- ---- control

  module _ (kind : v.kind ≡ control) (setup : Passes (finished_at s.finished v.place)) where
    brief : v.length + 1 < 2 ^ 64
    brief = omega (arith, (reached_brief h r l).1 kind)

    module _ (d : Words) (some : 0 < v.length) (stands : finished_at s.finished (data_place e v) ≡ Some d) (b : accepted (code_of d) ≡ true)
        (t : Told) (n : ℕ) (says : Tells (code_of d) t) (is : Writes t v.length (remaining_of d) n) where
      -- With a data event the status event tells its bytes;
      pub reached_data : (w : Words) → finished_at s.finished (status_place e v) ≡ Some w → accepted (code_of w) ≡ true
          → answered s (reclaims id) ≡ done_with v id n
      reached_data w here a =
          data_exact e s.finished s.records s.packets id r due kind setup w here a d some stands b (omega (arith, brief)) t n says is

      -- before that the answer is 10,
      pub reached_waits : finished_at s.finished (status_place e v) ≡ None → answered s (reclaims id) ≡ (10, [])
      reached_waits empty =
          ap (λ (x : After Reclaimed). reclaimed_number x.answer)
          (data_waits e s.finished s.records s.packets id r due kind setup d some stands b brief empty)

      -- and either way they are recorded.
      pub reached_records : (record_at (after s (reclaims id)).records r).recorded ≡ n + 1
      reached_records = moved_recorded e s.finished s.records s.packets id r due kind setup d some stands b brief t n says is

    module _ (w : Words) (here : finished_at s.finished (status_place e v) ≡ Some w) (a : accepted (code_of w) ≡ true)
        (empty : data_seen e s.finished v ≡ None) where
      -- Without one it tells what is recorded,
      pub reached_recorded : (n : ℕ) → v.recorded ≡ n + 1 → answered s (reclaims id) ≡ done_with v id n
      reached_recorded n = recorded_told e s.finished s.records s.packets id r due kind setup w here a n empty

      -- or the length asked for.
      pub reached_unheard : v.recorded ≡ 0 → answered s (reclaims id) ≡ done_with v id v.length
      reached_unheard = unheard_told e s.finished s.records s.packets id r due kind setup w here a empty

-- ---- control, the status after the data

-- A reclaim finds the data's event, calls follow of which none reclaims that id, and then the status event stands: a reclaim tells the data's bytes,
-- whether or not the data's event still stands.
module _ {s : State} (h : Reached s) (idle : s.endpoint.work.busy ≡ false) (id r : ℕ) (l : r < record_count) (has : Has s id r)
    (flying : (record_at s.records r).state ≡ in_flight) (wanted : (record_at s.records r).cancelled ≡ false)
    (kind : (record_at s.records r).kind ≡ control) (setup : Passes (finished_at s.finished (record_at s.records r).place))
    (d : Words) (some : 0 < (record_at s.records r).length)
    (stands : finished_at s.finished (data_place s.endpoint (record_at s.records r)) ≡ Some d) (b : accepted (code_of d) ≡ true)
    (t : Told) (n : ℕ) (says : Tells (code_of d) t) (is : Writes t (record_at s.records r).length (remaining_of d) n)
    {u : State} (q : Since r (after s (reclaims id)) u) where
  abbrev before : Record
  before = record_at s.records r

  abbrev later : Record
  later = record_at u.records r

  reached : Reached u
  reached = since_reached (next h (reclaims id)) q

  stays : Same (record_at (after s (reclaims id)).records r) later
  stays = since_stays (next h (reclaims id)) l q

  kept : ((record_at (after s (reclaims id)).records r).kind ≡ before.kind) × ((record_at (after s (reclaims id)).records r).length ≡ before.length)
  kept =
      kind_kept s.endpoint s.finished s.records s.packets id r (due h idle id r l has flying wanted) kind setup

  size : later.length ≡ before.length
  size = stays.size ∙ kept.1

  recorded : later.recorded ≡ n + 1
  recorded = stays.recorded ∙ reached_records h idle id r l has flying wanted kind setup d some stands b t n says is

  pub reached_later : u.endpoint.work.busy ≡ false → Has u id r → later.state ≡ in_flight → later.cancelled ≡ false
      → Passes (finished_at u.finished later.place)
      → (data_seen u.endpoint u.finished later ≡ None) ⊎ (finished_at u.finished (data_place u.endpoint later) ≡ Some d)
      → (w : Words) → finished_at u.finished (status_place u.endpoint later) ≡ Some w → accepted (code_of w) ≡ true
      → answered u (reclaims id) ≡ done_with later id n
  reached_later idle' has' flying' wanted' setup' seen w here a =
      let kind' = stays.kind ∙ kept.0 ∙ kind in
      ⊎_elim
      (λ (empty : data_seen u.endpoint u.finished later ≡ None).
      reached_recorded reached idle' id r l has' flying' wanted' kind' setup' w here a empty n recorded)
      (λ (still : finished_at u.finished (data_place u.endpoint later) ≡ Some d).
      reached_data reached idle' id r l has' flying' wanted' kind' setup' d (omega (arith, size)) still b t n says
      (subst (λ (x : ℕ). Writes t x (remaining_of d) n) (sym size) is) w here a)
      seen

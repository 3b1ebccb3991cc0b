-- What a reclaim may change: its endpoint stays or lets the record go, ids, states and counts stay, and no record or packet but those of its own
-- request changes. Assumes nothing.
use Rattle.std.specs.Prelude.{Option, Some, None, Result}
use Rattle.trb.specs.declared.Words.{Words}
use Prim.Native.Nat.{ℕ, zero, suc, ◌+◌, ◌*◌, ◌<◌, ◌≤◌}
use mathlib.Core.Bool.{Bool, true, false, ◌||◌}
use mathlib.Core.List.{List}
use mathlib.Core.Logic.{◌⊎◌, inl, inr, ⊎_elim}
use mathlib.Core.Path.{◌≡◌, refl, sym, ◌∙◌, subst}
use native.Mathlib.Omega.{arith}
use lib.Dec.{eqb}
use lib.Seq.{get_or-set_same, get_or-set_other}
use lib.ListN.{length, length-set}
use Rattle.base.specs.First.{first}
use Rattle.base.proofs.Compare.{same_or_not}
use Rattle.sizes.specs.Sizes.{record_count, record_words, records_size, packet_count}
use Rattle.finished.specs.Finished.{finished_at}
use Rattle.records.specs.Kinds.{kind_is, control, bulk, interrupt, isoch}
use Rattle.records.proofs.KindLaws.{kind_true}
use Rattle.records.specs.Records.{recorded_word, word_at, record_at, set_word}
use Rattle.records.specs.declared.Record.{Record}
use Rattle.packets.specs.Packets.{packet_at, put_packet}
use Rattle.packets.specs.declared.Packet.{Packet}
use Rattle.packets.proofs.PacketLaws.{packet_other}
use Rattle.records.proofs.RecordLaws.{word_kept}
use Rattle.dock.specs.declared.Endpoint.{Endpoint}
use Rattle.dock.specs.declared.After.{After}
use Rattle.dock.specs.declared.Reclaimed.{Reclaimed}
use Rattle.dock.specs.declared.Refusal.{Refusal}
use Rattle.dock.specs.Worth.{Worth, bytes, refused, worth, accepted}
use Rattle.dock.specs.Reclaim.{leave, final, complete_tests, complete_answer, complete, nothing, code_of, remaining_of, bulk_by, reclaim_bulk, Seen, onward, ends, stage_by, status_by, recorded_by, status_place, data_seen, after_stage, records_after, reclaim_control, counted, close_below, Swept, unfinished, fatal, found, swept_by, swept_at, sweep, swept_answer, reclaim_iso, reclaim_flying, place_of}
use Rattle.dock.proofs.ReachedBookLaws.{Alike, alike_same, alike_set}
use Rattle.dock.proofs.RetireLaws.{picked}

-- ---- the answer and the endpoint

-- The record has left: it is freed and its count taken off.
pub record Left (e : Endpoint) (number count : ℕ) (x : After Reclaimed) : Type 0 where
  pub halts : Bool
  pub gone : x.endpoint ≡ leave e number count halts
  pub over : final x.answer ≡ true

-- Nothing has happened, or the record has left.
abbrev pub Ends : Endpoint → ℕ → ℕ → After Reclaimed → Type 0
Ends e number count x = (x ≡ nothing e) ⊎ Left e number count x

pub over_answer : (which : ℕ) (v : Record) (number code size : ℕ) → final (complete_answer which v number code size) ≡ true
over_answer which v number code size =
    picked (λ (x : Result Reclaimed Refusal). final x ≡ true) (eqb which 7) _ _ (λ t. refl)
    (λ t. picked (λ (x : Result Reclaimed Refusal). final x ≡ true) (eqb which 9) _ _ (λ s. refl)
    (λ s. picked (λ (x : Result Reclaimed Refusal). final x ≡ true) (eqb which 8) _ _ (λ u. refl) (λ u. refl)))

module _ (e : Endpoint) (v : Record) (number : ℕ) where
  -- A completion ends the request.
  pub completes : (code : ℕ) (fails : Bool) (size : ℕ) → Left e number v.count (complete e v number code fails size)
  unfolding complete
  completes code fails size = record {
    halts = _;
    gone = refl;
    over = over_answer (first (complete_tests v fails)) v number code size;
  }

  bulk_by_lem : (f : Option Words) → Ends e number v.count (bulk_by f e v number)
  bulk_by_lem None = inl refl
  bulk_by_lem (Some w) = inr (completes _ _ _)

  pub bulk_ends : (finished : List ℕ) → Ends e number v.count (reclaim_bulk e finished v number)
  unfolding reclaim_bulk
  bulk_ends finished = bulk_by_lem (finished_at finished v.place)

  status_by_lem : (f : Option Words) (recorded : ℕ) → Ends e number v.count (status_by f e v number recorded)
  status_by_lem None recorded = inl refl
  status_by_lem (Some w) recorded = inr (completes _ _ _)

  stage_by_lem : (f : Option Words) (more : After Reclaimed) → Ends e number v.count more → Ends e number v.count (after_stage (stage_by f e v number) more)
  stage_by_lem None more m = m
  stage_by_lem (Some w) more m =
      picked (λ (s : Seen). Ends e number v.count (after_stage s more)) (accepted (code_of w)) onward (ends (complete e v number (code_of w) true 0))
      (λ t. m) (λ t. inr (completes _ _ _))

  pub control_ends : (finished records : List ℕ) → Ends e number v.count (reclaim_control e finished records v number).0
  unfolding reclaim_control
  control_ends finished records =
      let seen = data_seen e finished v in
      let status = finished_at finished (status_place e v) in
      let last = status_by status e v number (recorded_by seen v) in
      stage_by_lem (finished_at finished v.place) (after_stage (stage_by seen e v number) last)
      (stage_by_lem seen last (status_by_lem status (recorded_by seen v)))

  swept_by_lem : (s : Swept) (packets : List ℕ) → Ends e number v.count (swept_answer s e v number packets)
  swept_by_lem unfinished packets = inl refl
  swept_by_lem (fatal code) packets = inr (completes _ _ _)
  swept_by_lem (found code) packets = inr (completes _ _ _)

  pub iso_ends : (finished packets : List ℕ) → Ends e number v.count (reclaim_iso e finished packets v number).0
  unfolding reclaim_iso
  iso_ends finished packets =
      let s = sweep e.shape.slots finished v number v.count 0 packets in
      swept_by_lem s.0 s.1

-- ---- the records: only its own, and of that only what is recorded

-- What is recorded of a data event stands one above a length that is at most the one asked for; 0 is nothing.
abbrev pub Measured : Record → Type 0
Measured v = v.recorded ≤ v.length + 1

-- So is what a look at the data event records.
pub recorded_by_lem : (f : Option Words) (v : Record) → Measured v → recorded_by f v ≤ v.length + 1
recorded_by_lem None v m = omega arith
recorded_by_lem (Some w) v m = omega arith

pub record OwnRecord (number : ℕ) (records after : List ℕ) : Type 0 where
  pub alike : Alike records after
  pub others : (q k : ℕ) → (q ≡ number → ⊥) → k < record_words → word_at after q k ≡ word_at records q k
  pub own : (k : ℕ) → k < record_words → (k ≡ recorded_word → ⊥) → word_at after number k ≡ word_at records number k
  pub measured : Measured (record_at records number) → Measured (record_at after number)

pub own_record_same : (number : ℕ) (records : List ℕ) → OwnRecord number records records
own_record_same number records = record { alike = alike_same records; others = λ q k d l. refl; own = λ k l d. refl; measured = λ m. m }

module _ (number : ℕ) (records : List ℕ) (within : number < record_count) (long : length records ≡ records_size) where
  set_measured : (recorded : ℕ) → recorded ≤ (record_at records number).length + 1 → Measured (record_at (set_word records number recorded_word recorded) number)
  unfolding record_at set_word
  set_measured recorded new =
      omega (
        arith,
        get_or-set_same records (record_words * number + 11) recorded 0 (omega arith),
        get_or-set_other records (record_words * number + 11) (record_words * number + 6) recorded 0 (λ e. omega arith),
      )

  records_by : (s : Seen) (recorded : ℕ) → (Measured (record_at records number) → recorded ≤ (record_at records number).length + 1)
      → OwnRecord number records (records_after s records (set_word records number recorded_word recorded))
  records_by onward recorded new = record {
    alike = alike_set records number recorded_word recorded (omega arith) (λ e. omega arith) (λ e. omega arith) (λ e. omega arith) (λ e. omega arith);
    others = λ q k d l. word_kept records number recorded_word recorded q k (λ e. d (omega arith));
    own = λ k l d. word_kept records number recorded_word recorded number k (λ e. d (omega arith));
    measured = λ m. set_measured recorded (new m);
  }
  records_by (ends r) recorded new = own_record_same number records

  pub control_own : (e : Endpoint) (finished : List ℕ) → OwnRecord number records (reclaim_control e finished records (record_at records number) number).1
  unfolding reclaim_control
  control_own e finished =
      let v = record_at records number in
      records_by (stage_by (finished_at finished v.place) e v number) (recorded_by (data_seen e finished v) v) (recorded_by_lem (data_seen e finished v) v)

-- Every record stays measured that was.
pub own_measured : (number : ℕ) (records after : List ℕ) → OwnRecord number records after → (r : ℕ) → Measured (record_at records r) → Measured (record_at after r)
unfolding record_at
own_measured number records after o r m =
    ⊎_elim
    (λ (e : r ≡ number).
    subst (λ (x : ℕ). Measured (record_at after x)) (sym e) (o.measured (subst (λ (x : ℕ). Measured (record_at records x)) e m)))
    (λ (d : r ≡ number → ⊥). omega (arith, o.others r 11 d (omega arith), o.others r 6 d (omega arith)))
    (same_or_not r number)

-- ---- the packets: only those of its own record

pub record OwnPackets (number : ℕ) (packets after : List ℕ) : Type 0 where
  pub long : length after ≡ length packets
  pub others : (q k : ℕ) → (q ≡ number → ⊥) → k < packet_count → packet_at after q k ≡ packet_at packets q k

pub own_packets_same : (number : ℕ) (packets : List ℕ) → OwnPackets number packets packets
own_packets_same number packets = record { long = refl; others = λ q k d l. refl }

own_then : (number : ℕ) (a b c : List ℕ) → OwnPackets number a b → OwnPackets number b c → OwnPackets number a c
own_then number a b c p q = record { long = q.long ∙ p.long; others = λ r k d l. q.others r k d l ∙ p.others r k d l }

pub put_long : (packets : List ℕ) (r k : ℕ) (p : Packet) → length (put_packet packets r k p) ≡ length packets
unfolding put_packet
put_long packets r k p = simp length-set

own_put : (number : ℕ) (packets : List ℕ) (k : ℕ) (p : Packet) → k < packet_count → OwnPackets number packets (put_packet packets number k p)
own_put number packets k p l = record {
  long = put_long packets number k p;
  others = λ q j d m. packet_other packets number k p q j (λ e. d (omega arith));
}

pub close_own : (k : ℕ) (packets : List ℕ) (number : ℕ) → k ≤ packet_count → OwnPackets number packets (close_below k packets number)
unfolding close_below
close_own zero packets number l = own_packets_same number packets
close_own (suc k) packets number l =
    let c = close_below k packets number in
    let i = close_own k packets number (omega arith) in
    elim (packet_at c number k).marked as
    (λ (b : Bool). OwnPackets number packets (elim b [ true ↦ c | false ↦ put_packet c number k (counted (packet_at c number k) 0) ])) [
      | true ↦ i
      | false ↦ own_then number packets c (put_packet c number k (counted (packet_at c number k) 0)) i (own_put number c k (counted (packet_at c number k) 0) (omega arith))
    ]

module _ (slots : ℕ) (finished : List ℕ) (v : Record) (number : ℕ) where
  module _ (k : ℕ) (packets : List ℕ) (more : List ℕ → Swept × List ℕ) (l : k < packet_count)
      (onwards : (after : List ℕ) → OwnPackets number after (more after).1) where
    by_worth : (w : Worth) (code : ℕ) → OwnPackets number packets (swept_by slots finished v number w code k packets more).1
    by_worth refused code = own_packets_same number packets
    by_worth (bytes n) code =
        let marked = put_packet packets number k (counted (packet_at packets number k) n) in
        let put = own_put number packets k (counted (packet_at packets number k) n) l in
        elim (eqb (k + 1) v.count) as
        (λ (b : Bool).
        let s : Swept × List ℕ = elim b [ true ↦ (found code, close_below k marked number) | false ↦ more marked ] in
        OwnPackets number packets s.1) [
          | true ↦ own_then number packets marked (close_below k marked number) put (close_own k marked number (omega arith))
          | false ↦ own_then number packets marked (more marked).1 put (onwards marked)
        ]

    by_place : (f : Option Words) → OwnPackets number packets (swept_at slots finished v number f k packets more).1
    by_place None = onwards packets
    by_place (Some w) = by_worth (worth (code_of w) (packet_at packets number k).requested (remaining_of w)) (code_of w)

  sweep_own : (n k : ℕ) (packets : List ℕ) → n + k ≤ packet_count → OwnPackets number packets (sweep slots finished v number n k packets).1
  unfolding sweep
  sweep_own zero k packets l = own_packets_same number packets
  sweep_own (suc n) k packets l =
      let rest : (after : List ℕ) → OwnPackets number after (sweep slots finished v number n (k + 1) after).1 = λ after. sweep_own n (k + 1) after (omega arith) in
      elim (packet_at packets number k).marked as
      (λ (b : Bool).
      let s : Swept × List ℕ = elim b [
        | true ↦ sweep slots finished v number n (k + 1) packets
        | false ↦ swept_at slots finished v number (finished_at finished (place_of slots v.place k)) k packets (λ l. sweep slots finished v number n (k + 1) l)
      ] in
      OwnPackets number packets s.1) [
        | true ↦ rest packets
        | false ↦ by_place k packets (λ l. sweep slots finished v number n (k + 1) l) (omega arith) rest (finished_at finished (place_of slots v.place k))
      ]

pub iso_own : (e : Endpoint) (finished packets : List ℕ) (v : Record) (number : ℕ) → v.count ≤ packet_count
    → OwnPackets number packets (reclaim_iso e finished packets v number).1
unfolding reclaim_iso
iso_own e finished packets v number few = sweep_own e.shape.slots finished v number v.count 0 packets (omega arith)

-- ---- a record in flight, of any kind

pub record Touches (e : Endpoint) (records packets : List ℕ) (number count : ℕ) (t : After Reclaimed × List ℕ × List ℕ) : Type 0 where
  pub end : Ends e number count t.0
  pub own_record : OwnRecord number records t.1
  pub own_packets : OwnPackets number packets t.2

pub flying_touches : (e : Endpoint) (finished records packets : List ℕ) (number : ℕ) → number < record_count → length records ≡ records_size
    → ((record_at records number).kind ≡ isoch → (record_at records number).count ≤ packet_count)
    → Touches e records packets number (record_at records number).count (reclaim_flying e finished records packets (record_at records number) number)
unfolding reclaim_flying
flying_touches e finished records packets number within long few =
    let v = record_at records number in
    let own = own_record_same number records in
    let none = own_packets_same number packets in
    let P = Touches e records packets number v.count in
    picked P (kind_is v.kind control) _ _
    (λ t. record { end = control_ends e v number finished records; own_record = control_own number records within long e finished; own_packets = none })
    (λ t. picked P (kind_is v.kind isoch) _ _
    (λ s. record { end = iso_ends e v number finished packets; own_record = own; own_packets = iso_own e finished packets v number (few (kind_true v.kind isoch s)) })
    (λ s. picked P (kind_is v.kind bulk || kind_is v.kind interrupt) _ _
    (λ u. record { end = bulk_ends e v number finished; own_record = own; own_packets = none })
    (λ u. record { end = inl refl; own_record = own; own_packets = none })))

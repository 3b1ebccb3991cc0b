-- In every state that is reached from making no packet asks for more than 65,536 bytes, so that a packet that is counted keeps all that its event is
-- worth. Assumes nothing.
use Rattle.std.specs.Prelude.{Option, Some, None, ⊤}
use Rattle.trb.specs.declared.Words.{Words}
use Prim.Native.Nat.{ℕ, zero, suc, ◌≤◌, ◌<◌}
use mathlib.Core.Bool.{Bool, true, false, ◌||◌}
use mathlib.Core.List.{List}
use mathlib.Core.Logic.{◌⊎◌, inl, inr, ⊎_elim}
use mathlib.Core.Path.{◌≡◌, refl, ap, ◌∙◌}
use native.Mathlib.Omega.{arith}
use borrow.Author.Tests.{eqb-true}
use lib.Dec.{eqb}
use lib.ListN.{length, get_or, replicate}
use Rattle.base.specs.First.{pick}
use Rattle.base.proofs.Compare.{same_or_not, lt_or_le}
use Rattle.sizes.specs.Sizes.{record_count, packet_count, packets_size, longest}
use Rattle.ids.specs.Lookup.{find_in}
use Rattle.finished.specs.Finished.{finished_at}
use Rattle.packets.specs.Packets.{packet_index, packet_at}
use Rattle.records.specs.Kinds.{kind_is, control, bulk, interrupt, isoch}
use Rattle.records.proofs.KindLaws.{kind_true}
use Rattle.records.specs.States.{state_is, in_flight, stopped}
use Rattle.records.proofs.StateLaws.{state_true}
use Rattle.records.specs.Records.{record_at}
use Rattle.packets.specs.declared.Packet.{Packet}
use Rattle.dock.specs.declared.Endpoint.{Endpoint}
use Rattle.dock.specs.declared.Identity.{Identity}
use Rattle.dock.specs.declared.After.{After}
use Rattle.dock.specs.declared.Reclaimed.{Reclaimed}
use Rattle.dock.specs.Refusals.{done}
use Rattle.dock.specs.declared.Request.{Request}
use Rattle.dock.specs.declared.Shape.{Shape}
use Rattle.dock.specs.declared.What.{What}
use Rattle.dock.specs.declared.What.TheVariants.{Control, Bulk, Interrupt, Isoch}
use Rattle.dock.specs.Make.{zeros, make_no, make}
use Rattle.dock.specs.Start.{too_long, at_least_one, write_packets, record_taken, start_no, start}
use Rattle.dock.specs.Worth.{Worth, bytes, refused, worth}
use Rattle.dock.specs.Reclaim.{code_of, remaining_of, place_of, Swept, sweep, reclaim_iso, reclaim_no, reclaim_flying, reclaim_found, reclaim}
use Rattle.dock.specs.Run.{State, Made, making, Call, configures, starts, stores, submits, hands, reclaims, cancels, retires, begins, ends, stops, resumes, points, after, Reached}
use Rattle.dock.proofs.Reached.{reached_has}
use Rattle.dock.proofs.SubmitLaws.{submit_keeps}
use Rattle.dock.proofs.ReachedSoundLaws.{not_done}
use Rattle.dock.proofs.StartPacketLaws.{packet_short, one_short, packet_written, packet_behind, others_packets_kept}
use Rattle.dock.proofs.StartLaws.{start_admitted}
use Rattle.dock.proofs.ReclaimSettleLaws.{credited, unmarked_by, settled, is_found, Settles}
use Rattle.dock.proofs.ReclaimCountLaws.{Walks, reclaim_walks, few, reclaim_settles}
use Rattle.dock.proofs.ReclaimLaws.{iso_own}
use Rattle.dock.proofs.RetireLaws.{picked}

abbrev pub Modest : List ℕ → Type 0
Modest packets = (r k : ℕ) → r < record_count → k < packet_count → (packet_at packets r k).requested ≤ longest

-- ---- a reclaim

credited_asks : (x : Worth) (p : Packet) → (credited x p).requested ≡ p.requested
credited_asks refused p = refl
credited_asks (bytes n) p = refl

unmarked_asks : (closes : Bool) (f : Option Words) (p : Packet) → (unmarked_by closes f p).requested ≡ p.requested
unmarked_asks true None p = refl
unmarked_asks false None p = refl
unmarked_asks closes (Some w) p = credited_asks (worth (code_of w) p.requested (remaining_of w)) p

-- A packet keeps what it asks for.
settled_asks : (closes : Bool) (f : Option Words) (p : Packet) → (settled closes f p).requested ≡ p.requested
settled_asks closes f p = by_mark p.marked
  where
    by_mark : (b : Bool) → (pick b p (unmarked_by closes f p)).requested ≡ p.requested
    by_mark true = refl
    by_mark false = unmarked_asks closes f p

-- The packets of a reclaim: as they were, or an ISO request is walked over.
module _ (e : Endpoint) (finished records packets : List ℕ) (id : ℕ) where
  abbrev Kept : After Reclaimed × List ℕ × List ℕ → Type 0
  Kept t = (t.2 ≡ packets) ⊎ ((r : ℕ) × Walks e finished records packets id r)

  flying_kept : (r : ℕ) → ((record_at records r).kind ≡ isoch → Walks e finished records packets id r) → Kept (reclaim_flying e finished records packets (record_at records r) r)
  unfolding reclaim_flying
  flying_kept r walks =
      let v = record_at records r in
      picked Kept (kind_is v.kind control) _ _ (λ t. inl refl)
      (λ t. picked Kept (kind_is v.kind isoch) _ _ (λ u. inr (r, walks (kind_true (record_at records r).kind isoch u)))
      (λ u. picked Kept (kind_is v.kind bulk || kind_is v.kind interrupt) _ _ (λ z. inl refl) (λ z. inl refl)))

  found_kept : (f : Option ℕ) → find_in records e.account.occupancy id ≡ f → reclaim_no e (length finished) records (length packets) id ≡ 0 → Kept (reclaim_found f e finished records packets)
  found_kept None is pass = inl refl
  found_kept (Some r) is pass =
      let v = record_at records r in
      picked Kept (state_is v.state stopped) _ _ (λ t. inl refl)
      (λ t. picked Kept (state_is v.state in_flight) _ _
      (λ u. flying_kept r (λ kind. record { admitted = pass; holder = is; flying = state_true v.state in_flight u; iso = kind }))
      (λ u. inl refl))

  pub reclaim_packets : Kept (reclaim e finished records packets id)
  unfolding reclaim
  reclaim_packets =
      picked Kept (eqb (reclaim_no e (length finished) records (length packets) id) 0) _ _
      (λ t. found_kept (find_in records e.account.occupancy id) refl (eqb-true _ _ t)) (λ t. inl refl)

  module _ (r : ℕ) (h : Walks e finished records packets id r) where
    abbrev swept : Swept × List ℕ
    swept = sweep e.shape.slots finished (record_at records r) r (record_at records r).count 0 packets

    abbrev walk : Settles e.shape.slots finished (record_at records r) r packets swept
    walk = reclaim_settles e finished records packets id r h

    own_asks : (k : ℕ) → k < packet_count → (packet_at (reclaim e finished records packets id).2 r k).requested ≡ (packet_at packets r k).requested
    own_asks k small =
        ap (λ (x : After Reclaimed × List ℕ × List ℕ). (packet_at x.2 r k).requested) (reclaim_walks e finished records packets id r h)
        ∙ ⊎_elim
        (λ (l : k < walk.upto). ap (λ (p : Packet). p.requested) (walk.passed k l)
        ∙ settled_asks (is_found swept.0) (finished_at finished (place_of e.shape.slots (record_at records r).place k)) (packet_at packets r k))
        (λ (l : walk.upto ≤ k). ap (λ (p : Packet). p.requested) (walk.behind k l small))
        (lt_or_le k walk.upto)

    other_asks : (q k : ℕ) → (q ≡ r → ⊥) → k < packet_count → packet_at (reclaim e finished records packets id).2 q k ≡ packet_at packets q k
    unfolding reclaim_iso
    other_asks q k d small =
        ap (λ (x : After Reclaimed × List ℕ × List ℕ). packet_at x.2 q k) (reclaim_walks e finished records packets id r h)
        ∙ (iso_own e finished packets (record_at records r) r (few e finished records packets id r h)).others q k d small

  reclaim_modest : Modest packets → Modest (reclaim e finished records packets id).2
  reclaim_modest m q k l small =
      ⊎_elim
      (λ (same : (reclaim e finished records packets id).2 ≡ packets). rw same (m q k l small))
      (λ (w : (r : ℕ) × Walks e finished records packets id r).
      ⊎_elim
      (λ (i : q ≡ w.0). rw i (omega (arith, own_asks w.0 w.1 k small, ap (λ (x : ℕ). (packet_at packets x k).requested) i, m q k l small)))
      (λ (d : q ≡ w.0 → ⊥). rw (other_asks w.0 w.1 q k d small) (m q k l small))
      (same_or_not q w.0))
      reclaim_packets

-- ---- a start

module _ (packets : List ℕ) (r : ℕ) (lengths : List ℕ) (sized : length packets ≡ packets_size) (below : r < record_count) (m : Modest packets) where
  iso_modest : (incoming : Bool) (size : ℕ) → too_long (Isoch incoming) size lengths ≡ false
      → (k : ℕ) → k < packet_count → (packet_at (write_packets packets r (Isoch incoming) lengths) r k).requested ≤ longest
  iso_modest incoming size short k small =
      ⊎_elim
      (λ (l : k < length (at_least_one lengths)).
      rw (packet_written packets r incoming size lengths sized below short k l) (one_short lengths k (packet_short incoming size lengths short) l))
      (λ (l : length (at_least_one lengths) ≤ k). rw (packet_behind packets r incoming size lengths sized below short k l) (m r k below small))
      (lt_or_le k (length (at_least_one lengths)))

  own_modest : (what : What) (size : ℕ) → too_long what size lengths ≡ false → (k : ℕ) → k < packet_count → (packet_at (write_packets packets r what lengths) r k).requested ≤ longest
  unfolding write_packets
  own_modest (Control type request value index) size short k small = m r k below small
  own_modest (Bulk incoming) size short k small = m r k below small
  own_modest (Interrupt incoming) size short k small = m r k below small
  own_modest (Isoch incoming) size short k small = iso_modest incoming size short k small

  write_modest : (what : What) (size : ℕ) → too_long what size lengths ≡ false → Modest (write_packets packets r what lengths)
  write_modest what size short q k l small =
      ⊎_elim
      (λ (e : q ≡ r). rw e (own_modest what size short k small))
      (λ (d : q ≡ r → ⊥). rw (others_packets_kept packets r lengths sized below what size short q k small d) (m q k l small))
      (same_or_not q r)

start_modest : (s : State) (request : Request) (lengths : List ℕ) → Modest s.packets → Modest (after s (starts request lengths)).packets
unfolding start
start_modest s request lengths m =
    picked (λ (a : After ⊤ × List ℕ × List ℕ). Modest a.2) (eqb (start_no s.endpoint s.records (length s.packets) request lengths) 0) _ _
    (λ t.
    let k = start_admitted s.endpoint s.records s.packets request lengths (eqb-true _ _ t) in
    write_modest s.packets (record_taken s.endpoint) lengths k.packets_size_lem k.free.within m request.what request.length k.short)
    (λ t. m)

-- ---- making

pub zero_at : (n i : ℕ) → ◌≡◌ {A = ℕ} (get_or (replicate n 0) i 0) 0
zero_at zero i = refl
zero_at (suc n) zero = refl
zero_at (suc n) (suc i) = zero_at n i

zeros_modest : (l : List ℕ) → Modest (zeros l)
unfolding packet_at
zeros_modest l r k low small = rw (zero_at (length l) (packet_index r k)) (omega arith)

make_modest : (ring finished records packets : List ℕ) (shape : Shape) (who : Identity) → (make ring finished records packets shape who).0.answer ≡ done
    → Modest (make ring finished records packets shape who).4
unfolding make
make_modest ring finished records packets shape who =
    picked (λ (t : After ⊤ × List ℕ × List ℕ × List ℕ × List ℕ). t.0.answer ≡ done → Modest t.4)
    (eqb (make_no (length ring) (length finished) (length records) (length packets) shape who) 0) _ _
    (λ t d. zeros_modest packets) (λ t d. absurd (not_done _ d))

made_modest : (s : State) → Made s → Modest s.packets
made_modest s (making ring finished records packets shape who done) = make_modest ring finished records packets shape who done

-- ---- the theorem

pub after_modest : (s : State) (c : Call) → Modest s.packets → Modest (after s c).packets
after_modest s (configures packet burst interval) m = m
after_modest s (starts request lengths) m = start_modest s request lengths m
after_modest s stores m = m
after_modest s (submits request lengths) m =
    submit_keeps (λ (t : State). Modest t.packets) (λ t k. k) s request lengths m (start_modest s request lengths m)
after_modest s (hands event) m = m
after_modest s (reclaims id) m = reclaim_modest s.endpoint s.finished s.records s.packets id m
after_modest s (cancels id) m = m
after_modest s retires m = m
after_modest s begins m = m
after_modest s (ends worked) m = m
after_modest s stops m = m
after_modest s resumes m = m
after_modest s points m = m

pub reached_modest : {s : State} → Reached s → Modest s.packets
reached_modest = reached_has (λ (t : State). Modest t.packets) made_modest (λ s r. after_modest s)

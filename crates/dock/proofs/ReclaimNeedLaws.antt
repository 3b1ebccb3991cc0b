-- Which events a reclaim reads, and which it cannot do without. It reads none but those in the places of its own request's TRBs, and of those of marked
-- packets none: whatever else the finished table holds, answer and effect are the same. A request in flight is over only where the event of its last
-- TRB stands, or one with a refused code; and it is done only where the last one does. Assumes nothing.
use Rattle.std.specs.Prelude.{Option, Some, None, Ok}
use Prim.Native.Nat.{ℕ, zero, suc, ◌+◌, ◌≤◌, ◌<◌, min}
use mathlib.Core.Bool.{Bool, true, false, ◌&&◌, ◌||◌, false≢true}
use mathlib.Core.List.{List}
use mathlib.Core.Path.{◌≡◌, refl, sym, ap, ◌∙◌, subst}
use native.Mathlib.Nat.{mod-eq_of_lt}
use native.Mathlib.Omega.{arith}
use borrow.Author.Tests.{eqb-true, leb-false}
use lib.Dec.{eqb, leb, ltb}
use lib.ListN.{length}
use Rattle.base.specs.First.{pick}
use Rattle.base.proofs.Chosen.{quiet}
use Rattle.ids.specs.Lookup.{find_in}
use Rattle.trb.specs.declared.Words.{Words}
use Rattle.finished.specs.Finished.{finished_at}
use Rattle.sizes.specs.Sizes.{packet_count}
use Rattle.packets.specs.Packets.{packet_at, put_packet}
use Rattle.records.specs.Kinds.{kind_is, control, bulk, interrupt, isoch}
use Rattle.records.proofs.KindLaws.{kind_true, kind_false, kinds_apart}
use Rattle.records.specs.States.{state_is, in_flight, stopped}
use Rattle.records.specs.Records.{record_at}
use Rattle.records.proofs.StateLaws.{state_true, eq_state}
use Rattle.packets.specs.declared.Packet.{Packet}
use Rattle.records.specs.declared.Record.{Record}
use Rattle.packets.proofs.PacketLaws.{packet_other}
use Rattle.dock.specs.declared.Completion.{Completion}
use Rattle.dock.specs.declared.Endpoint.{Endpoint}
use Rattle.dock.specs.declared.After.{After}
use Rattle.dock.specs.declared.Reclaimed.{Reclaimed}
use Rattle.dock.specs.declared.Reclaimed.TheVariants as answer
use Rattle.dock.specs.Trbs.{trb_count}
use Rattle.dock.specs.Worth.{Worth, bytes, refused, worth, accepted}
use Rattle.dock.specs.Reclaim.{final, complete, bulk_by, Seen, onward, ends, stage_by, status_by, recorded_by, after_stage, code_of, remaining_of, place_of, counted, close_below, Swept, found, swept_by, swept_at, sweep, swept_answer, reclaim_iso, data_seen, data_place, status_place, reclaim_control, reclaim_bulk, bad_record, reclaim_tests, reclaim_no, reclaim_flying, reclaim_found, reclaim, nothing}
use Rattle.dock.proofs.ReclaimAnswerLaws.{never_done, refused_not_done}
use Rattle.dock.proofs.RefusalLaws.{reclaim_acts}
use Rattle.dock.proofs.ReachedSoundLaws.{few_packets, both_false}
use Rattle.dock.proofs.RetireLaws.{picked}
use Rattle.dock.proofs.ReclaimSettleLaws.{Refuses, Ending, ran, broke, closed}
use Rattle.dock.proofs.ReclaimCountLaws.{Walks, reclaim_settles, few}

-- A choice is the same where both sides are, each where the test leads to it.
same_picks : {A : Type 0} (b : Bool) (x y x' y' : A) → (b ≡ true → x ≡ x') → (b ≡ false → y ≡ y') → pick b x y ≡ pick b x' y'
same_picks true x y x' y' p q = p refl
same_picks false x y x' y' p q = q refl

only_one : (a b : Bool) → (a || b) ≡ true → ◌≡◌ {A = ℕ} (pick a 1 (pick b 1 0)) 1
only_one true b t = refl
only_one false true t = refl
only_one false false t = absurd (false≢true t)

and_left : (a b : Bool) → (a && b) ≡ false → a ≡ true → b ≡ false
and_left true b t u = t
and_left false b t u = absurd (false≢true u)

-- ---- the walk over packets

module _ (slots : ℕ) (finished other : List ℕ) (v : Record) (number : ℕ) where
  -- The two tables hold the same for the packets from k on that are not marked.
  abbrev SameFrom : ℕ → List ℕ → Type 0
  SameFrom k l =
      (j : ℕ) → k ≤ j → j < v.count → (packet_at l number j).marked ≡ false
      → finished_at other (place_of slots v.place j) ≡ finished_at finished (place_of slots v.place j)

  module _ (k : ℕ) (l : List ℕ) (more more' : List ℕ → Swept × List ℕ) (s : SameFrom (k + 1) l) (on : (m : List ℕ) → SameFrom (k + 1) m → more' m ≡ more m) where
    put_same : (p : Packet) → SameFrom (k + 1) (put_packet l number k p)
    put_same p j low high clear = s j low high (sym (ap (λ (x : Packet). x.marked) (packet_other l number k p number j (λ e. omega arith))) ∙ clear)

    by_worth : (x : Worth) (code : ℕ) → swept_by slots other v number x code k l more' ≡ swept_by slots finished v number x code k l more
    by_worth refused code = refl
    by_worth (bytes n) code = by_last (eqb (k + 1) v.count)
      where
        put : List ℕ
        put = put_packet l number k (counted (packet_at l number k) n)

        by_last : (b : Bool)
            → let new : Swept × List ℕ = elim b [ true ↦ (found code, close_below k put number) | false ↦ more' put ] in
            let old : Swept × List ℕ = elim b [ true ↦ (found code, close_below k put number) | false ↦ more put ] in
            new ≡ old
        by_last true = refl
        by_last false = on put (put_same (counted (packet_at l number k) n))

    by_place : (f : Option Words) → swept_at slots other v number f k l more' ≡ swept_at slots finished v number f k l more
    by_place None = on l s
    by_place (Some w) = by_worth (worth (code_of w) (packet_at l number k).requested (remaining_of w)) (code_of w)

  sweep_same : (n k : ℕ) (l : List ℕ) → n + k ≤ v.count → SameFrom k l → sweep slots other v number n k l ≡ sweep slots finished v number n k l
  unfolding sweep
  sweep_same zero k l few s = refl
  sweep_same (suc n) k l few s = by_mark (λ m t. sweep_same n (k + 1) m (omega arith) t) (packet_at l number k).marked refl
    where
      later : SameFrom (k + 1) l
      later j low = s j (omega arith)

      by_mark : ((m : List ℕ) → SameFrom (k + 1) m → sweep slots other v number n (k + 1) m ≡ sweep slots finished v number n (k + 1) m) → (b : Bool) → (packet_at l number k).marked ≡ b
          → let new : Swept × List ℕ = elim b [
            | true ↦ sweep slots other v number n (k + 1) l
            | false ↦ swept_at slots other v number (finished_at other (place_of slots v.place k)) k l (λ m. sweep slots other v number n (k + 1) m)
          ] in
          let old : Swept × List ℕ = elim b [
            | true ↦ sweep slots finished v number n (k + 1) l
            | false ↦ swept_at slots finished v number (finished_at finished (place_of slots v.place k)) k l (λ m. sweep slots finished v number n (k + 1) m)
          ] in
          new ≡ old
      by_mark on true m = on l later
      by_mark on false m =
          ap (λ (f : Option Words). swept_at slots other v number f k l (λ x. sweep slots other v number n (k + 1) x)) (s k (omega arith) (omega arith) m)
          ∙ by_place k l (λ x. sweep slots finished v number n (k + 1) x) (λ x. sweep slots other v number n (k + 1) x) later on (finished_at finished (place_of slots v.place k))

-- ---- the places that are looked at

-- A request's first TRB is in its own place.
pub first_place : (slots p : ℕ) → p + 1 < slots → p ≡ place_of slots p 0
unfolding place_of
first_place slots p low = sym (mod-eq_of_lt (omega arith) ∙ omega arith)

-- Place p is that of the k-th TRB of a record's request, and not of a packet that is marked.
pub record Needed (e : Endpoint) (packets : List ℕ) (v : Record) (r p : ℕ) : Type 0 where
  pub k : ℕ
  pub within : k < trb_count v
  pub is : p ≡ place_of e.shape.slots v.place k
  pub clear : v.kind ≡ isoch → (packet_at packets r k).marked ≡ false

module _ (e : Endpoint) (finished other records packets : List ℕ) (v : Record) (r : ℕ) (low : v.place + 1 < e.shape.slots)
    (same : (p : ℕ) → Needed e packets v r p → finished_at other p ≡ finished_at finished p) where
  abbrev slots : ℕ
  slots = e.shape.slots

  -- Of a request that is not isochronous.
  plain_same : (v.kind ≡ isoch → ⊥) → (k : ℕ) → k < trb_count v
      → finished_at other (place_of slots v.place k) ≡ finished_at finished (place_of slots v.place k)
  plain_same not_iso k small = same (place_of slots v.place k) (record { k = k; within = small; is = refl; clear = λ i. absurd (not_iso i) })

  first_same : (v.kind ≡ isoch → ⊥) → 0 < trb_count v → finished_at other v.place ≡ finished_at finished v.place
  first_same not_iso small = subst (λ (p : ℕ). finished_at other p ≡ finished_at finished p) (sym (first_place slots v.place low)) (plain_same not_iso 0 small)

  bulk_same : (v.kind ≡ isoch → ⊥) → 0 < trb_count v → reclaim_bulk e other v r ≡ reclaim_bulk e finished v r
  unfolding reclaim_bulk
  bulk_same not_iso small = rw (first_same not_iso small)

  module _ (kind : v.kind ≡ control) where
    not_iso : v.kind ≡ isoch → ⊥
    not_iso i = kinds_apart v.kind control isoch refl kind i

    control_count : trb_count v ≡ pick (eqb v.length 0) 2 3
    unfolding trb_count
    control_count = rw kind

    data_same : data_seen e other v ≡ data_seen e finished v
    data_same =
        same_picks (eqb v.length 0) _ _ _ _ (λ t. refl)
        (λ t. plain_same not_iso 1 (let three : trb_count v ≡ 3 = control_count ∙ rw t in omega arith))

    status_same : finished_at other (status_place e v) ≡ finished_at finished (status_place e v)
    status_same = by_length (eqb v.length 0) refl
      where
        by_length : (b : Bool) → eqb v.length 0 ≡ b
            → finished_at other (place_of slots v.place (pick b 1 2)) ≡ finished_at finished (place_of slots v.place (pick b 1 2))
        by_length true t = plain_same not_iso 1 (let two : trb_count v ≡ 2 = control_count ∙ rw t in omega arith)
        by_length false t = plain_same not_iso 2 (let three : trb_count v ≡ 3 = control_count ∙ rw t in omega arith)

    some : 0 < trb_count v
    some = subst (λ (n : ℕ). 0 < n) (sym control_count) (picked (λ (n : ℕ). 0 < n) (eqb v.length 0) 2 3 (λ t. omega arith) (λ t. omega arith))

    control_same : reclaim_control e other records v r ≡ reclaim_control e finished records v r
    unfolding reclaim_control
    control_same = rw (first_same not_iso some, data_same, status_same)

  iso_same : v.kind ≡ isoch → v.count ≤ packet_count → reclaim_iso e other packets v r ≡ reclaim_iso e finished packets v r
  unfolding reclaim_iso trb_count
  iso_same kind few =
      let swept = sweep_same slots finished other v r v.count 0 packets (omega arith)
      (λ j low high clear. same (place_of slots v.place j) (record { k = j; within = iso_within j high; is = refl; clear = λ i. clear })) in
      rw swept
    where
      iso_within : (j : ℕ) → j < v.count → j < trb_count v
      iso_within j high = let n : trb_count v ≡ min packet_count v.count = rw kind in omega arith

  flying_same : (v.kind ≡ isoch → v.count ≤ packet_count) → reclaim_flying e other records packets v r ≡ reclaim_flying e finished records packets v r
  unfolding reclaim_flying trb_count
  flying_same few =
      same_picks (kind_is v.kind control) _ _ _ _ (λ t. rw (control_same (kind_true v.kind control t)))
      (λ t. same_picks (kind_is v.kind isoch) _ _ _ _ (λ u. let kind = kind_true v.kind isoch u in rw (iso_same kind (few kind)))
      (λ u. same_picks (kind_is v.kind bulk || kind_is v.kind interrupt) _ _ _ _
      (λ z. rw (bulk_same (kind_false v.kind isoch u) (one t u z)))
      (λ z. refl)))
    where
      one : kind_is v.kind control ≡ false → kind_is v.kind isoch ≡ false → (kind_is v.kind bulk || kind_is v.kind interrupt) ≡ true → 0 < trb_count v
      one t u z = rw (t, u) (let q = only_one (kind_is v.kind bulk) (kind_is v.kind interrupt) z in omega arith)

-- ---- the call

-- A record in flight that is not bad has its place among the slots 0 to L-2.
place_low : (e : Endpoint) (records : List ℕ) (r : ℕ) → bad_record e records (Some r) ≡ false → (record_at records r).state ≡ in_flight → (record_at records r).place + 1 < e.shape.slots
place_low e records r bad flying =
    let v = record_at records r in
    let high = leb e.shape.slots (v.place + 1) in
    let over = kind_is v.kind isoch && ltb packet_count v.count in
    leb-false _ _ (both_false high over (and_left _ (high || over) bad (eq_state v.state in_flight flying))).0

module _ (e : Endpoint) (finished other records packets : List ℕ) (id : ℕ) (long : length other ≡ length finished)
    (same : (r p : ℕ) → find_in records e.account.occupancy id ≡ Some r → Needed e packets (record_at records r) r p → finished_at other p ≡ finished_at finished p) where
  found_same : (f : Option ℕ) → find_in records e.account.occupancy id ≡ f → bad_record e records f ≡ false
      → reclaim_found f e other records packets ≡ reclaim_found f e finished records packets
  found_same None is bad = refl
  found_same (Some r) is bad =
      let v = record_at records r in
      same_picks (state_is v.state stopped) _ _ _ _ (λ t. refl)
      (λ t. same_picks (state_is v.state in_flight) _ _ _ _
      (λ u.
      let flying = state_true v.state in_flight u in
      flying_same e finished other records packets v r (place_low e records r bad flying) (λ p. same r p is) (few_packets e v bad flying))
      (λ u. refl))

  -- A reclaim depends on no event but those in the places of its own request, and of marked packets on none.
  pub reclaim_needs : reclaim e other records packets id ≡ reclaim e finished records packets id
  unfolding reclaim reclaim_no reclaim_tests
  reclaim_needs =
      rw long
      (same_picks (eqb (reclaim_no e (length finished) records (length packets) id) 0) _ _ _ _
      (λ t.
      found_same (find_in records e.account.occupancy id) refl
      (quiet (reclaim_tests e (length finished) records (length packets) id) 1 refl (eqb-true _ _ t) (omega arith)))
      (λ t. refl))

-- ---- what a request in flight needs to be over

module _ (e : Endpoint) (finished records packets : List ℕ) (v : Record) (r : ℕ) where
  -- What stands in the place of TRB k.
  abbrev pub stands_at : ℕ → Option Words
  stands_at k = finished_at finished (place_of e.shape.slots v.place k)

  -- The event of the request's last TRB stands in its place,
  abbrev pub Last : Type 0
  Last = (w : Words) × (k : ℕ) × (k + 1 ≡ trb_count v) × (stands_at k ≡ Some w)

  -- or an event whose code is refused: of an earlier stage of a control request, or of a packet that is not marked.
  pub data Telling : Type 0 where
    last : Last → Telling
    stage : (w : Words) (k : ℕ) → k + 1 < trb_count v → stands_at k ≡ Some w → accepted (code_of w) ≡ false → Telling
    packet : (k : ℕ) → k < v.count → Refuses (packet_at packets r k) (stands_at k) → Telling

  -- What an answer tells of the events.
  pub record Over (x : After Reclaimed) : Type 0 where
    pub told : final x.answer ≡ true → Telling
    pub done : (c : Completion) → x.answer ≡ Ok (answer.Done c) → Last

  waits : Over (nothing e)
  waits = record { told = λ over. absurd (false≢true over); done = λ c d. absurd (never_done e v r c d) }

  ends_last : (x : After Reclaimed) → Last → Over x
  ends_last x l = record { told = λ over. last l; done = λ c d. l }

  by_last : (f : Option Words) → ((w : Words) → f ≡ Some w → Last) → Over (bulk_by f e v r)
  by_last None l = waits
  by_last (Some w) l = ends_last (bulk_by (Some w) e v r) (l w refl)

  status_by_lem : (f : Option Words) (recorded : ℕ) → ((w : Words) → f ≡ Some w → Last) → Over (status_by f e v r recorded)
  status_by_lem None recorded l = waits
  status_by_lem (Some w) recorded l = ends_last (status_by (Some w) e v r recorded) (l w refl)

  stage_by_lem : (f : Option Words) (more : After Reclaimed) → ((w : Words) → f ≡ Some w → (k : ℕ) × (k + 1 < trb_count v) × (stands_at k ≡ Some w)) → Over more
      → Over (after_stage (stage_by f e v r) more)
  stage_by_lem None more at m = m
  stage_by_lem (Some w) more at m =
      picked (λ (s : Seen). Over (after_stage s more)) (accepted (code_of w)) onward (ends (complete e v r (code_of w) true 0))
      (λ t. m)
      (λ t. record {
        told = λ over. let x = at w refl in stage w x.0 x.1 x.2 t;
        done = λ c d. absurd (refused_not_done e v r (code_of w) 0 c d);
      })

  module _ (low : v.place + 1 < e.shape.slots) where
    place_first : v.place ≡ place_of e.shape.slots v.place 0
    place_first = first_place e.shape.slots v.place low

    bulk_over : trb_count v ≡ 1 → Over (reclaim_bulk e finished v r)
    unfolding reclaim_bulk
    bulk_over one = by_last (finished_at finished v.place) (λ w here. (w, 0, omega arith, ap (finished_at finished) (sym place_first) ∙ here))

    control_over : trb_count v ≡ pick (eqb v.length 0) 2 3 → Over (reclaim_control e finished records v r).0
    unfolding reclaim_control
    control_over count =
        let seen = data_seen e finished v in
        let status = finished_at finished (status_place e v) in
        let rest = status_by status e v r (recorded_by seen v) in
        stage_by_lem (finished_at finished v.place) (after_stage (stage_by seen e v r) rest) (λ w here. (0, first_stage, ap (finished_at finished) (sym place_first) ∙ here))
        (stage_by_lem seen rest data_stage (status_by_lem status (recorded_by seen v) last_stage))
      where
        first_stage : 0 + 1 < trb_count v
        first_stage = subst (λ (n : ℕ). 0 + 1 < n) (sym count) (picked (λ (n : ℕ). 0 + 1 < n) (eqb v.length 0) 2 3 (λ t. omega arith) (λ t. omega arith))

        by_length : (b : Bool) → eqb v.length 0 ≡ b → (w : Words) → pick b None (finished_at finished (data_place e v)) ≡ Some w
            → (k : ℕ) × (k + 1 < trb_count v) × (stands_at k ≡ Some w)
        by_length true t w here = absurd (let z : ◌≡◌ {A = ℕ} 0 1 = cc in omega arith)
        by_length false t w here = let three : trb_count v ≡ 3 = count ∙ rw t in (1, omega arith, here)

        data_stage : (w : Words) → data_seen e finished v ≡ Some w → (k : ℕ) × (k + 1 < trb_count v) × (stands_at k ≡ Some w)
        data_stage = by_length (eqb v.length 0) refl

        last_stage : (w : Words) → finished_at finished (status_place e v) ≡ Some w → Last
        last_stage w here = (w, pick (eqb v.length 0) 1 2, subst (λ (n : ℕ). pick (eqb v.length 0) 1 2 + 1 ≡ n) (sym count) (plus_one (eqb v.length 0)), here)
          where
            plus_one : (b : Bool) → pick b 1 2 + 1 ≡ pick b 2 3
            plus_one true = refl
            plus_one false = refl

  swept_over : (upto : ℕ) (s : Swept) (l : List ℕ) → trb_count v ≡ v.count → Ending (packet_at packets r) stands_at v.count upto s → Over (swept_answer s e v r l)
  swept_over upto s l count (ran all none) = waits
  swept_over upto s l count (broke under x) =
      record { told = λ over. packet upto under x; done = λ c d. absurd (refused_not_done e v r (code_of x.0) 0 c d) }
  swept_over upto s l count (closed w k all at clear here) = ends_last (swept_answer s e v r l) (w, k, at ∙ sym count, here)

module _ (e : Endpoint) (finished records packets : List ℕ) (id r : ℕ) (admitted : reclaim_no e (length finished) records (length packets) id ≡ 0)
    (holder : find_in records e.account.occupancy id ≡ Some r) (flying : (record_at records r).state ≡ in_flight) where
  abbrev v : Record
  v = record_at records r

  abbrev Tells : After Reclaimed × List ℕ × List ℕ → Type 0
  Tells t = Over e finished records packets v r t.0

  low : v.place + 1 < e.shape.slots
  unfolding reclaim_no reclaim_tests
  low =
      place_low e records r
      (subst (λ (f : Option ℕ). bad_record e records f ≡ false) holder (quiet (reclaim_tests e (length finished) records (length packets) id) 1 refl admitted (omega arith)))
      flying

  iso_tells : v.kind ≡ isoch → Over e finished records packets v r (reclaim_iso e finished packets v r).0
  unfolding reclaim_iso trb_count
  iso_tells kind =
      let h : Walks e finished records packets id r = record { admitted = admitted; holder = holder; flying = flying; iso = kind } in
      let s = reclaim_settles e finished records packets id r h in
      let n = few e finished records packets id r h in
      let swept = sweep e.shape.slots finished v r v.count 0 packets in
      swept_over e finished records packets v r s.upto swept.0 swept.1 (rw kind (omega arith)) s.ending

  flying_tells : Tells (reclaim_flying e finished records packets v r)
  unfolding reclaim_flying trb_count
  flying_tells =
      picked Tells (kind_is v.kind control) _ _ (λ t. control_over e finished records packets v r low (rw t))
      (λ t. picked Tells (kind_is v.kind isoch) _ _ (λ u. iso_tells (kind_true v.kind isoch u))
      (λ u. picked Tells (kind_is v.kind bulk || kind_is v.kind interrupt) _ _
      (λ z. bulk_over e finished records packets v r low (rw (t, u) (only_one (kind_is v.kind bulk) (kind_is v.kind interrupt) z)))
      (λ z. waits e finished records packets v r)))

  -- A request in flight that is over (done, cancelled, failed or mismatched) is told by an event that stands, its last TRB's or one that is refused;
  -- it is done only by its last TRB's.
  pub over_told : Tells (reclaim e finished records packets id)
  over_told =
      let is : reclaim e finished records packets id ≡ reclaim_flying e finished records packets v r =
      reclaim_acts e finished records packets id admitted ∙ rw (holder, flying) in
      rw is flying_tells

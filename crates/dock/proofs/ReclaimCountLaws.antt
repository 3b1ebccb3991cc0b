-- The packets of an ISO request that is reclaimed, as laws of the whole call: one that is marked stays, one that is not counts what its event is
-- worth, one without an event counts 0 and only where the last packet's event stands; a request that is done has every packet marked.
-- Assumes nothing.
use Rattle.std.specs.Prelude.{Option, Some, None, Ok}
use Prim.Native.Nat.{ℕ, ◌+◌, ◌-◌, ◌%◌, ◌^◌, ◌≤◌, ◌<◌}
use mathlib.Core.Bool.{Bool, true, false, false≢true}
use mathlib.Core.List.{List}
use mathlib.Core.Logic.{◌⊎◌, inl, inr, ⊎_elim}
use mathlib.Core.Path.{◌≡◌, refl, sym, ap, ◌∙◌, subst}
use native.Mathlib.Nat.{mod-eq_of_lt}
use native.Mathlib.Omega.{arith}
use borrow.Author.Tests.{not-false}
use lib.Dec.{eqb}
use lib.ListN.{length}
use Rattle.base.specs.First.{pick}
use Rattle.base.proofs.Chosen.{quiet}
use Rattle.base.proofs.Compare.{lt_or_le}
use Rattle.base.proofs.Decide.{both, by_eqb}
use Rattle.mask.specs.Occupancy.{held}
use Rattle.sizes.specs.Sizes.{ring_size, record_count, packet_count, packets_size}
use Rattle.ids.specs.Free.{id_at, held_by}
use Rattle.ids.specs.Lookup.{Finds, find_in}
use Rattle.ids.proofs.LookupLaws.{find_finds}
use Rattle.trb.specs.declared.Words.{Words}
use Rattle.finished.specs.Finished.{finished_at}
use Rattle.packets.specs.Packets.{packet_at}
use Rattle.records.specs.Kinds.{isoch}
use Rattle.records.specs.States.{in_flight}
use Rattle.records.specs.Records.{record_at}
use Rattle.packets.specs.declared.Packet.{Packet}
use Rattle.records.specs.declared.Record.{Record}
use Rattle.dock.specs.declared.Completion.{Completion}
use Rattle.dock.specs.declared.Endpoint.{Endpoint}
use Rattle.dock.specs.declared.After.{After}
use Rattle.dock.specs.declared.Reclaimed.{Reclaimed}
use Rattle.dock.specs.declared.Reclaimed.TheVariants as answer
use Rattle.dock.specs.Worth.{Worth, bytes, refused, counts, worth}
use Rattle.dock.specs.Residual.{Told, Tells, Writes, credit}
use Rattle.dock.specs.Reclaim.{code_of, remaining_of, place_of, counted, Swept, unfinished, fatal, found, sweep, swept_answer, reclaim_iso, bad_record, reclaim_tests, reclaim_no, reclaim_flying, reclaim_found, reclaim}
use Rattle.dock.proofs.RefusalLaws.{reclaim_acts}
use Rattle.dock.proofs.ReclaimResidualLaws.{worth_residual}
use Rattle.dock.proofs.RetireLaws.{picked}
use Rattle.dock.proofs.ReachedSoundLaws.{fits_with_parts, few_packets}
use Rattle.dock.proofs.ReclaimAnswerLaws.{never_done, refused_not_done}
use Rattle.dock.proofs.ReclaimSettleLaws.{credited, unmarked_by, settled, Refuses, is_found, Ending, ran, broke, closed, Settles, sweep_settles}

-- A reclaim that is not refused, of an ISO request in flight, whose record is r.
pub record Walks (e : Endpoint) (finished records packets : List ℕ) (id r : ℕ) : Type 0 where
  pub admitted : reclaim_no e (length finished) records (length packets) id ≡ 0
  pub holder : find_in records e.account.occupancy id ≡ Some r
  pub flying : (record_at records r).state ≡ in_flight
  pub iso : (record_at records r).kind ≡ isoch

-- A worth is below 2^31 where what is asked for is: the field that it comes from has 24 bits.
worth_most : (code requested remaining n : ℕ) → requested < 2 ^ 31 → remaining < 2 ^ 31 → worth code requested remaining ≡ bytes n → n < 2 ^ 31
unfolding worth
worth_most code requested remaining n small few =
    picked (λ (x : Worth). x ≡ bytes n → n < 2 ^ 31) (counts code) _ _ (λ t is. let q : n ≡ requested - remaining = cc in omega arith)
    (λ t. picked (λ (x : Worth). x ≡ bytes n → n < 2 ^ 31) (eqb code 28) _ _ (λ u is. let q : n ≡ remaining = cc in omega arith)
    (λ u. picked (λ (x : Worth). x ≡ bytes n → n < 2 ^ 31) (eqb code 27) _ _ (λ z is. let q : n ≡ 0 = cc in omega arith)
    (λ z is. absurd (let q : ◌≡◌ {A = ℕ} 0 1 = cc in omega arith))))

-- Where the last packet is found, a packet whose event is not refused ends up marked.
settled_marked : (p : Packet) (f : Option Words) → (Refuses p f → ⊥) → (settled true f p).marked ≡ true
settled_marked p f grants = by_mark p.marked refl
  where
    by_worth : (w : Words) → f ≡ Some w → p.marked ≡ false → (x : Worth) → worth (code_of w) p.requested (remaining_of w) ≡ x → (credited x p).marked ≡ true
    by_worth w here clear refused is = absurd (grants (w, clear, here, is))
    by_worth w here clear (bytes n) is = refl

    by_place : (g : Option Words) → f ≡ g → p.marked ≡ false → (unmarked_by true g p).marked ≡ true
    by_place None here clear = refl
    by_place (Some w) here clear = by_worth w here clear (worth (code_of w) p.requested (remaining_of w)) refl

    by_mark : (b : Bool) → p.marked ≡ b → (pick b p (unmarked_by true f p)).marked ≡ true
    by_mark true m = m
    by_mark false m = by_place f refl m

module _ (e : Endpoint) (finished records packets : List ℕ) (id r : ℕ) (h : Walks e finished records packets id r) where
  abbrev v : Record
  v = record_at records r

  abbrev result : After Reclaimed × List ℕ × List ℕ
  result = reclaim e finished records packets id

  abbrev swept : Swept × List ℕ
  swept = sweep e.shape.slots finished v r v.count 0 packets

  -- Packet k before, what stands in its place, and the packet afterwards.
  abbrev before : ℕ → Packet
  before k = packet_at packets r k

  abbrev stands : ℕ → Option Words
  stands k = finished_at finished (place_of e.shape.slots v.place k)

  abbrev after : ℕ → Packet
  after k = packet_at result.2 r k

  -- ---- the call is the walk

  reclaims : result ≡ reclaim_found (Some r) e finished records packets
  reclaims = reclaim_acts e finished records packets id h.admitted ∙ ap (λ (f : Option ℕ). reclaim_found f e finished records packets) h.holder

  walked : reclaim_found (Some r) e finished records packets ≡ (swept_answer swept.0 e v r swept.1, records, swept.1)
  unfolding reclaim_flying reclaim_iso
  walked = rw (h.flying, h.iso)

  pub reclaim_walks : result ≡ (swept_answer swept.0 e v r swept.1, records, swept.1)
  reclaim_walks = reclaims ∙ walked

  packets_long_lem : length packets ≡ packets_size
  unfolding reclaim_no reclaim_tests
  packets_long_lem =
      let row = not-false _ (quiet (reclaim_tests e (length finished) records (length packets) id) 0 refl h.admitted (omega arith)) in
      ((both (both (fits_with_parts e records) (by_eqb (length finished) (ring_size e.shape.slots))) (by_eqb (length packets) packets_size)).so row).1

  not_bad : bad_record e records (Some r) ≡ false
  unfolding reclaim_no reclaim_tests
  not_bad =
      subst (λ (f : Option ℕ). bad_record e records f ≡ false) h.holder
      (quiet (reclaim_tests e (length finished) records (length packets) id) 1 refl h.admitted (omega arith))

  pub few : v.count ≤ packet_count
  few = few_packets e v not_bad h.flying h.iso

  within : r < record_count
  within =
      (subst (λ (f : Option ℕ). Finds record_count (held_by (held e.account.occupancy) (id_at records) id) f) h.holder
      (find_finds record_count (held e.account.occupancy) (id_at records) id)).within

  -- What the walk leaves of every packet, and why it ended.
  pub reclaim_settles : Settles e.shape.slots finished v r packets swept
  reclaim_settles = sweep_settles r within e.shape.slots finished v few packets (let l = packets_long_lem in omega arith)

  is_after : (k : ℕ) → packet_at swept.1 r k ≡ after k
  is_after k = ap (λ (x : After Reclaimed × List ℕ × List ℕ). packet_at x.2 r k) (sym reclaim_walks)

  -- ---- each packet

  -- The packets below the walk's end are settled, the others stay.
  passes : (k : ℕ) → k < reclaim_settles.upto → after k ≡ settled (is_found swept.0) (stands k) (before k)
  passes k low = sym (is_after k) ∙ reclaim_settles.passed k low

  stays : (k : ℕ) → reclaim_settles.upto ≤ k → k < packet_count → after k ≡ before k
  stays k high small = sym (is_after k) ∙ reclaim_settles.behind k high small

  -- A marked packet is not counted again, whatever stands in its place.
  pub marked_stays : (k : ℕ) → k < packet_count → (before k).marked ≡ true → after k ≡ before k
  marked_stays k small m =
      ⊎_elim
      (λ (low : k < reclaim_settles.upto). passes k low ∙ rw m)
      (λ (high : reclaim_settles.upto ≤ k). stays k high small)
      (lt_or_le k reclaim_settles.upto)

  -- The walk reaches every packet up to which no event is refused.
  reached_by : (upto : ℕ) (s : Swept) (k : ℕ) → Ending before stands v.count upto s → k < v.count → ((j : ℕ) → j ≤ k → Refuses (before j) (stands j) → ⊥) → k < upto
  reached_by upto s k (ran all last) low none = omega arith
  reached_by upto s k (broke under x) low none = ⊎_elim (λ (l : k < upto). l) (λ (l : upto ≤ k). absurd (none upto l x)) (lt_or_le k upto)
  reached_by upto s k (closed w j all last clear here) low none = omega arith

  -- The last packet is not marked, and its event stands in its place.
  abbrev pub LastStands : Type 0
  LastStands = (w : Words) × (k : ℕ) × (k + 1 ≡ v.count) × ((before k).marked ≡ false) × (stands k ≡ Some w)

  found_last : (upto : ℕ) (s : Swept) → Ending before stands v.count upto s → is_found s ≡ true → (upto ≡ v.count) × LastStands
  found_last upto s (ran all last) f = absurd (false≢true f)
  found_last upto s (broke under x) f = absurd (false≢true f)
  found_last upto s (closed w k all last clear here) f = (all, (w, k, last, clear, here))

  module _ (k : ℕ) (low : k < v.count) (clear : (before k).marked ≡ false) where
    -- A packet counts what its event is worth, of which its word keeps 31 bits, where no event before it is refused.
    pub packet_counted : (w : Words) (n : ℕ) → stands k ≡ Some w → worth (code_of w) (before k).requested (remaining_of w) ≡ bytes n
        → ((j : ℕ) → j < k → Refuses (before j) (stands j) → ⊥) → after k ≡ counted (before k) (n % 2 ^ 31)
    packet_counted w n here is none =
        passes k (reached_by reclaim_settles.upto swept.0 k reclaim_settles.ending low not_refused) ∙ rw (clear, here, is)
      where
        worth_here : Refuses (before k) (stands k) → ⊥
        worth_here x = let q = x.2 in let u = x.3 in let z : ◌≡◌ {A = ℕ} 0 1 = cc in omega arith

        not_refused : (j : ℕ) → j ≤ k → Refuses (before j) (stands j) → ⊥
        not_refused j l x =
            ⊎_elim
            (λ (u : j < k). none j u x)
            (λ (u : k ≤ j). let q : j ≡ k = omega arith in worth_here (subst (λ (i : ℕ). Refuses (before i) (stands i)) q x))
            (lt_or_le j k)

    -- All of them where the packet asks for less than 2^31 bytes,
    pub packet_exact : (w : Words) (n : ℕ) → (before k).requested < 2 ^ 31 → stands k ≡ Some w → worth (code_of w) (before k).requested (remaining_of w) ≡ bytes n
        → ((j : ℕ) → j < k → Refuses (before j) (stands j) → ⊥) → after k ≡ counted (before k) n
    packet_exact w n small here is none =
        packet_counted w n here is none
        ∙ ap (counted (before k)) (mod-eq_of_lt (worth_most (code_of w) (before k).requested (remaining_of w) n small (omega arith) is))

    -- and where the event is one that the standard lets a controller write for n bytes moved, those.
    pub packet_moved : (w : Words) (t : Told) (n : ℕ) → (before k).requested < 2 ^ 31 → stands k ≡ Some w → Tells (code_of w) t → Writes t (before k).requested (remaining_of w) n
        → ((j : ℕ) → j < k → Refuses (before j) (stands j) → ⊥) → after k ≡ counted (before k) (credit t n)
    packet_moved w t n small here says is none = packet_exact w (credit t n) small here (worth_residual says (before k).requested (remaining_of w) n is) none

    -- A packet whose event is refused, or that stands behind such a one, stays.
    pub refused_stays : (j : ℕ) → j ≤ k → Refuses (before j) (stands j) → after k ≡ before k
    refused_stays j l x =
        ⊎_elim
        (λ (u : j < reclaim_settles.upto). absurd (reclaim_settles.granted j u x))
        (λ (u : reclaim_settles.upto ≤ j). stays k (omega arith) (let f = few in omega arith))
        (lt_or_le j reclaim_settles.upto)

    -- A packet without an event stays, or counts 0, and this only where the last packet's event stands.
    pub late_packet : stands k ≡ None → (after k ≡ before k) ⊎ ((after k ≡ counted (before k) 0) × LastStands)
    late_packet none =
        ⊎_elim
        (λ (l : k < reclaim_settles.upto). by_found (is_found swept.0) refl (passes k l))
        (λ (l : reclaim_settles.upto ≤ k). inl (stays k l (let f = few in omega arith)))
        (lt_or_le k reclaim_settles.upto)
      where
        by_found : (b : Bool) → is_found swept.0 ≡ b → after k ≡ settled (is_found swept.0) (stands k) (before k)
            → (after k ≡ before k) ⊎ ((after k ≡ counted (before k) 0) × LastStands)
        by_found true f is = inr (is ∙ rw (clear, none, f), (found_last reclaim_settles.upto swept.0 reclaim_settles.ending f).1)
        by_found false f is = inl (is ∙ rw (clear, none, f))

  -- ---- the request

  -- Where an ISO request is done, its last packet was found,
  done_found : (s : Swept) (l : List ℕ) (c : Completion) → (swept_answer s e v r l).answer ≡ Ok (answer.Done c) → is_found s ≡ true
  done_found unfinished l c d = absurd (never_done e v r c d)
  done_found (fatal code) l c d = absurd (refused_not_done e v r code 0 c d)
  done_found (found code) l c d = refl

  module _ (c : Completion) (done : result.0.answer ≡ Ok (answer.Done c)) where
    last_found : is_found swept.0 ≡ true
    last_found = done_found swept.0 swept.1 c (sym (ap (λ (x : After Reclaimed × List ℕ × List ℕ). x.0.answer) reclaim_walks) ∙ done)

    at_end : (reclaim_settles.upto ≡ v.count) × LastStands
    at_end = found_last reclaim_settles.upto swept.0 reclaim_settles.ending last_found

    -- the event of its last packet stands,
    pub done_last : LastStands
    done_last = at_end.1

    -- and every packet is marked.
    pub done_marked : (k : ℕ) → k < v.count → (after k).marked ≡ true
    done_marked k low =
        let under : k < reclaim_settles.upto = let u = at_end.0 in omega arith in
        let is : after k ≡ settled true (stands k) (before k) = rw last_found at (passes k under) in
        ap (λ (p : Packet). p.marked) is ∙ settled_marked (before k) (stands k) (reclaim_settles.granted k under)

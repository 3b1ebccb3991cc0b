-- What becomes of every packet of an ISO request that is reclaimed, as one law: a marked packet stays as it was, one with an event counts what its
-- event is worth, one without counts 0 where the last packet is found and else stays; a refused code ends the walk, and its packet and those behind
-- it stay. Assumes nothing.
use Rattle.std.specs.Prelude.{Option, Some, None}
use Prim.Native.Nat.{ℕ, zero, suc, ◌+◌, ◌%◌, ◌^◌, ◌≤◌, ◌<◌}
use mathlib.Core.Bool.{Bool, true, false, false≢true}
use mathlib.Core.List.{List}
use mathlib.Core.Logic.{◌⊎◌, inl, inr, ⊎_elim}
use mathlib.Core.Path.{◌≡◌, refl, sym, ap, ◌∙◌, subst}
use native.Mathlib.Omega.{arith}
use borrow.Author.Tests.{eqb-true, eqb-false}
use lib.Dec.{eqb}
use lib.ListN.{length, get_or}
use lib.Seq.{get_or-set_same}
use Rattle.base.specs.First.{pick}
use Rattle.base.proofs.Compare.{same_or_not}
use Rattle.base.proofs.ReadBack.{read_back, read_back_exact, flag_read}
use Rattle.sizes.specs.Sizes.{record_count, packet_count, packets_size}
use Rattle.trb.specs.declared.Words.{Words}
use Rattle.finished.specs.Finished.{finished_at}
use Rattle.packets.specs.Packets.{packet_index, packet_of, packet_fields, packet_word, packet_at, put_packet}
use Rattle.packets.specs.declared.Packet.{Packet}
use Rattle.records.specs.declared.Record.{Record}
use Rattle.packets.proofs.PacketLaws.{packet_other}
use Rattle.dock.specs.Worth.{Worth, bytes, refused, worth}
use Rattle.dock.specs.Reclaim.{code_of, remaining_of, place_of, counted, close_below, Swept, unfinished, fatal, found, swept_by, swept_at, sweep}
use Rattle.dock.proofs.ReclaimLaws.{put_long, close_own}

-- ---- what a packet becomes

-- A packet that counts n bytes: its word keeps the low 31 bits of them.
abbrev pub credited : Worth → Packet → Packet
credited refused p = p
credited (bytes n) p = counted p (n % 2 ^ 31)

-- A packet that is not marked, by what stands in its place. Where the walk closes, no event counts 0.
abbrev pub unmarked_by : Bool → Option Words → Packet → Packet
unmarked_by closes None p = pick closes (counted p 0) p
unmarked_by closes (Some w) p = credited (worth (code_of w) p.requested (remaining_of w)) p

abbrev pub settled : Bool → Option Words → Packet → Packet
settled closes f p = pick p.marked p (unmarked_by closes f p)

-- The packet is not marked, and the event in its place is refused.
abbrev pub Refuses : Packet → Option Words → Type 0
Refuses p f = (w : Words) × (p.marked ≡ false) × (f ≡ Some w) × (worth (code_of w) p.requested (remaining_of w) ≡ refused)

-- Whether the last packet was found.
abbrev pub is_found : Swept → Bool
is_found unfinished = false
is_found (fatal code) = false
is_found (found code) = true

-- How a walk over `count` packets p with what stands in their places f ended, having passed the packets below `upto`.
pub data Ending (p : ℕ → Packet) (f : ℕ → Option Words) (count upto : ℕ) : Swept → Type 0 where
  -- with the last packet marked before, or without an event,
  ran : upto ≡ count → ((k : ℕ) → k + 1 ≡ count → ((p k).marked ≡ true) ⊎ (f k ≡ None)) → Ending p f count upto unfinished
  -- at a packet whose event has a refused code,
  broke : upto < count → (x : Refuses (p upto) (f upto)) → Ending p f count upto (fatal (code_of x.0))
  -- or at the last packet's event.
  closed : (w : Words) (k : ℕ) → upto ≡ count → k + 1 ≡ count → (p k).marked ≡ false → f k ≡ Some w → Ending p f count upto (found (code_of w))

-- What a walk over the packets of a record leaves.
pub record Settles (slots : ℕ) (finished : List ℕ) (v : Record) (number : ℕ) (packets : List ℕ) (s : Swept × List ℕ) : Type 0 where
  pub upto : ℕ
  pub within : upto ≤ v.count
  pub passed : (k : ℕ) → k < upto → packet_at s.1 number k ≡ settled (is_found s.0) (finished_at finished (place_of slots v.place k)) (packet_at packets number k)
  pub granted : (k : ℕ) → k < upto → Refuses (packet_at packets number k) (finished_at finished (place_of slots v.place k)) → ⊥
  pub behind : (k : ℕ) → upto ≤ k → k < packet_count → packet_at s.1 number k ≡ packet_at packets number k
  pub ending : Ending (packet_at packets number) (λ (k : ℕ). finished_at finished (place_of slots v.place k)) v.count upto s.0

-- ---- one packet put

module _ (packets : List ℕ) (number k : ℕ) (l : packet_index number k < length packets) where
  -- A packet that is counted is read back, but for what its word does not keep.
  put_counted : (n : ℕ) → packet_at (put_packet packets number k (counted (packet_at packets number k) n)) number k ≡ counted (packet_at packets number k) (n % 2 ^ 31)
  unfolding packet_at put_packet
  put_counted n =
      let p = counted (packet_of (get_or packets (packet_index number k) 0)) n in
      let fs = packet_fields p in
      ap packet_of (get_or-set_same packets (packet_index number k) (packet_word p) 0 l)
      ∙ rw (read_back_exact 0 64 fs 0 refl (omega arith) (omega arith), read_back 0 64 fs 1 refl (omega arith), read_back 0 64 fs 2 refl (omega arith), flag_read true)

  put_other : (p : Packet) (j : ℕ) → (j ≡ k → ⊥) → packet_at (put_packet packets number k p) number j ≡ packet_at packets number j
  put_other p j d = packet_other packets number k p number j (λ e. d (omega arith))

-- ---- closing the packets below k

-- A packet without an event when the last one is found.
abbrev shut : Packet → Packet
shut p = pick p.marked p (counted p 0)

shut_marked : (p : Packet) → p.marked ≡ true → shut p ≡ p
shut_marked p m = rw m

shut_open : (p : Packet) → p.marked ≡ false → shut p ≡ counted p 0
shut_open p m = rw m

-- A marked packet stays.
stays_marked : (b : Bool) (f : Option Words) (p : Packet) → p.marked ≡ true → pick b (shut p) p ≡ settled b f p
stays_marked true f p m = rw m
stays_marked false f p m = rw m

same_either : (b : Bool) (p : Packet) → pick b p p ≡ p
same_either true p = refl
same_either false p = refl

module _ (number : ℕ) (inside : number < record_count) where
  abbrev Long : List ℕ → Type 0
  Long l = packets_size ≤ length l

  index : (l : List ℕ) (k : ℕ) → Long l → k < packet_count → packet_index number k < length l
  index l k long small = omega arith

  close_long : (k : ℕ) (l : List ℕ) → k ≤ packet_count → Long l → Long (close_below k l number)
  close_long k l small long = let o = close_own k l number small in omega (arith, o.long)

  put_is_long : (l : List ℕ) (k : ℕ) (p : Packet) → Long l → Long (put_packet l number k p)
  put_is_long l k p long = omega (arith, put_long l number k p)

  -- Packets from k on stay,
  pub close_behind : (k : ℕ) (l : List ℕ) (j : ℕ) → k ≤ packet_count → k ≤ j → packet_at (close_below k l number) number j ≡ packet_at l number j
  unfolding close_below
  close_behind zero l j small low = refl
  close_behind (suc k) l j small low =
      let c = close_below k l number in
      let p = counted (packet_at c number k) 0 in
      let i = close_behind k l j (omega arith) (omega arith) in
      elim (packet_at c number k).marked as (λ (b : Bool). packet_at (elim b [ true ↦ c | false ↦ put_packet c number k p ]) number j ≡ packet_at l number j) [
        | true ↦ i
        | false ↦ packet_other c number k p number j (λ e. omega arith) ∙ i
      ]

  -- and those below are shut.
  close_below_lem : (k : ℕ) (l : List ℕ) (j : ℕ) → Long l → k ≤ packet_count → j < k → packet_at (close_below k l number) number j ≡ shut (packet_at l number j)
  unfolding close_below
  close_below_lem zero l j long small low = absurd (omega arith)
  close_below_lem (suc k) l j long small low = by_mark (λ (d : j ≡ k → ⊥). close_below_lem k l j long (omega arith) (omega (arith, d))) (packet_at c number k).marked refl
    where
      c : List ℕ
      c = close_below k l number

      here : packet_at c number k ≡ packet_at l number k
      here = close_behind k l k (omega arith) (omega arith)

      was : (b : Bool) → (packet_at c number k).marked ≡ b → (packet_at l number k).marked ≡ b
      was b m = sym (ap (λ (p : Packet). p.marked) here) ∙ m

      by_mark : ((j ≡ k → ⊥) → packet_at c number j ≡ shut (packet_at l number j)) → (b : Bool) → (packet_at c number k).marked ≡ b
          → packet_at (elim b [ true ↦ c | false ↦ put_packet c number k (counted (packet_at c number k) 0) ]) number j ≡ shut (packet_at l number j)
      by_mark lower true m =
          ⊎_elim
          (λ (e : j ≡ k). subst (λ (i : ℕ). packet_at c number i ≡ shut (packet_at l number i)) (sym e) (here ∙ sym (shut_marked (packet_at l number k) (was true m))))
          lower
          (same_or_not j k)
      by_mark lower false m =
          let put = put_packet c number k (counted (packet_at c number k) 0) in
          let at = index c k (close_long k l (omega arith) long) (omega arith) in
          ⊎_elim
          (λ (e : j ≡ k).
          subst (λ (i : ℕ). packet_at put number i ≡ shut (packet_at l number i)) (sym e)
          (put_counted c number k at 0 ∙ ap (λ (p : Packet). counted p 0) here ∙ sym (shut_open (packet_at l number k) (was false m))))
          (λ (d : j ≡ k → ⊥). put_other c number k at (counted (packet_at c number k) 0) j d ∙ lower d)
          (same_or_not j k)

  -- ---- the walk, from packet k on

  module _ (slots : ℕ) (finished : List ℕ) (v : Record) (few : v.count ≤ packet_count) where
    abbrev seen_at : ℕ → Option Words
    seen_at k = finished_at finished (place_of slots v.place k)

    -- What the rest of a walk leaves: the packets before k are shut where the last packet is found.
    record Tail (k : ℕ) (l : List ℕ) (s : Swept × List ℕ) : Type 0 where
      upto : ℕ
      from : k ≤ upto
      within : upto ≤ v.count
      earlier : (j : ℕ) → j < k → packet_at s.1 number j ≡ pick (is_found s.0) (shut (packet_at l number j)) (packet_at l number j)
      passed : (j : ℕ) → k ≤ j → j < upto → packet_at s.1 number j ≡ settled (is_found s.0) (seen_at j) (packet_at l number j)
      granted : (j : ℕ) → k ≤ j → j < upto → Refuses (packet_at l number j) (seen_at j) → ⊥
      behind : (j : ℕ) → upto ≤ j → j < packet_count → packet_at s.1 number j ≡ packet_at l number j
      ending : Ending (packet_at l number) seen_at v.count upto s.0

    -- A walk that has come to its end without an answer has seen no event at the last packet.
    abbrev Before : ℕ → List ℕ → Type 0
    Before k l = (j : ℕ) → j + 1 ≡ k → j + 1 ≡ v.count → ((packet_at l number j).marked ≡ true) ⊎ (seen_at j ≡ None)

    -- One packet more in front: only that packet has changed, and it is what it is to be.
    step : (k : ℕ) (l m : List ℕ) (s : Swept × List ℕ) → ((j : ℕ) → (j ≡ k → ⊥) → packet_at m number j ≡ packet_at l number j)
        → ((b : Bool) → pick b (shut (packet_at m number k)) (packet_at m number k) ≡ settled b (seen_at k) (packet_at l number k))
        → (Refuses (packet_at l number k) (seen_at k) → ⊥) → (t : Tail (k + 1) m s) → Ending (packet_at l number) seen_at v.count t.upto s.0 → Tail k l s
    step k l m s same here grants t e = record {
      upto = t.upto;
      from = let f = t.from in omega arith;
      within = t.within;
      earlier = λ j low. subst (λ (p : Packet). packet_at s.1 number j ≡ pick (is_found s.0) (shut p) p) (same j (λ e. omega arith)) (t.earlier j (omega arith));
      passed = λ j high low.
          ⊎_elim
          (λ (q : j ≡ k).
          subst (λ (i : ℕ). packet_at s.1 number i ≡ settled (is_found s.0) (seen_at i) (packet_at l number i)) (sym q)
          (t.earlier k (omega arith) ∙ here (is_found s.0)))
          (λ (d : j ≡ k → ⊥).
          subst (λ (p : Packet). packet_at s.1 number j ≡ settled (is_found s.0) (seen_at j) p) (same j d) (t.passed j (omega (arith, d)) low))
          (same_or_not j k);
      granted = λ j high low x.
          ⊎_elim
          (λ (q : j ≡ k). grants (subst (λ (i : ℕ). Refuses (packet_at l number i) (seen_at i)) q x))
          (λ (d : j ≡ k → ⊥). t.granted j (omega (arith, d)) low (subst (λ (p : Packet). Refuses p (seen_at j)) (sym (same j d)) x))
          (same_or_not j k);
      behind = λ j high small. t.behind j high small ∙ same j (λ e. let f = t.from in omega arith);
      ending = e;
    }

    -- An ending speaks of packets behind k only.
    ending_moved : (k : ℕ) (l m : List ℕ) → ((j : ℕ) → (j ≡ k → ⊥) → packet_at m number j ≡ packet_at l number j) → k + 1 < v.count
        → (upto : ℕ) → k + 1 ≤ upto → (s : Swept) → Ending (packet_at m number) seen_at v.count upto s → Ending (packet_at l number) seen_at v.count upto s
    ending_moved k l m same more upto from s (ran all last) =
        ran all (λ j e. subst (λ (p : Packet). (p.marked ≡ true) ⊎ (seen_at j ≡ None)) (same j (λ q. omega arith)) (last j e))
    ending_moved k l m same more upto from s (broke low x) =
        let p = same upto (λ q. omega arith) in
        broke low (x.0, subst (λ (y : Packet). y.marked ≡ false) p x.1, x.2, subst (λ (y : Packet). worth (code_of x.0) y.requested (remaining_of x.0) ≡ refused) p x.3)
    ending_moved k l m same more upto from s (closed w j all last clear here) =
        closed w j all last (subst (λ (x : Packet). x.marked ≡ false) (same j (λ q. omega arith)) clear) here

    module _ (k : ℕ) (l : List ℕ) (long : Long l) (low : k < v.count) (more : List ℕ → Swept × List ℕ)
        (onwards : (m : List ℕ) → Long m → Before (k + 1) m → Tail (k + 1) m (more m)) (clear : (packet_at l number k).marked ≡ false) where
      abbrev p : Packet
      p = packet_at l number k

      at : packet_index number k < length l
      at = index l k long (omega arith)

      module _ (w : Words) (here : seen_at k ≡ Some w) where
        -- what a packet that is not marked becomes by this event
        by_event : (x : Worth) → worth (code_of w) p.requested (remaining_of w) ≡ x → (b : Bool) → settled b (seen_at k) p ≡ credited x p
        by_event x is b = rw (clear, here, is)

        module _ (n : ℕ) (is : worth (code_of w) p.requested (remaining_of w) ≡ bytes n) where
          abbrev put : List ℕ
          put = put_packet l number k (counted p n)

          apart : (j : ℕ) → (j ≡ k → ⊥) → packet_at put number j ≡ packet_at l number j
          apart = put_other l number k at (counted p n)

          now : packet_at put number k ≡ counted p (n % 2 ^ 31)
          now = put_counted l number k at n

          counts_here : Refuses p (seen_at k) → ⊥
          counts_here x = let q = x.2 in let u = x.3 in let z : ◌≡◌ {A = ℕ} 0 1 = cc in omega arith

          by_last : (b : Bool) → eqb (k + 1) v.count ≡ b → Tail k l (elim b [ true ↦ (found (code_of w), close_below k put number) | false ↦ more put ])
          by_last true e =
              let last = eqb-true (k + 1) v.count e in
              record {
                upto = k + 1;
                from = omega arith;
                within = omega arith;
                earlier = λ j under. close_below_lem k put j (put_is_long l k (counted p n) long) (omega arith) under ∙ ap shut (apart j (λ q. omega arith));
                passed = λ j high under.
                    let q : j ≡ k = omega arith in
                    subst (λ (i : ℕ). packet_at (close_below k put number) number i ≡ settled true (seen_at i) (packet_at l number i)) (sym q)
                    (close_behind k put k (omega arith) (omega arith) ∙ now ∙ sym (by_event (bytes n) is true));
                granted = λ j high under x. let q : j ≡ k = omega arith in counts_here (subst (λ (i : ℕ). Refuses (packet_at l number i) (seen_at i)) q x);
                behind = λ j high small. close_behind k put j (omega arith) (omega arith) ∙ apart j (λ q. omega arith);
                ending = closed w k last last clear here;
              }
          by_last false e =
              let differs = eqb-false (k + 1) v.count e in
              let t = onwards put (put_is_long l k (counted p n) long) (λ j q z. absurd (differs (sym q ∙ z))) in
              step k l put (more put) apart
              (λ b. rw now (same_either b (counted p (n % 2 ^ 31))) ∙ sym (by_event (bytes n) is b)) counts_here t
              (ending_moved k l put apart (omega (arith, differs)) t.upto t.from (more put).0 t.ending)

        by_worth : (x : Worth) → worth (code_of w) p.requested (remaining_of w) ≡ x → Tail k l (swept_by slots finished v number x (code_of w) k l more)
        by_worth refused is = record {
          upto = k;
          from = omega arith;
          within = omega arith;
          earlier = λ j under. refl;
          passed = λ j high under. absurd (omega arith);
          granted = λ j high under x. omega arith;
          behind = λ j high small. refl;
          ending = broke low (w, clear, here, is);
        }
        by_worth (bytes n) is = by_last n is (eqb (k + 1) v.count) refl

      by_place : (f : Option Words) → seen_at k ≡ f → Tail k l (swept_at slots finished v number f k l more)
      by_place None here =
          let t = onwards l long (λ j q z. let i : j ≡ k = omega arith in inr (ap seen_at i ∙ here)) in
          step k l l (more l) (λ j d. refl) (λ b. rw (clear, here)) (λ x. let q = x.2 in let z : ◌≡◌ {A = ℕ} 0 1 = cc in omega arith) t t.ending
      by_place (Some w) here = by_worth w here (worth (code_of w) p.requested (remaining_of w)) refl

    sweep_tail : (n k : ℕ) (l : List ℕ) → Long l → n + k ≡ v.count → Before k l → Tail k l (sweep slots finished v number n k l)
    unfolding sweep
    sweep_tail zero k l long left before = record {
      upto = k;
      from = omega arith;
      within = omega arith;
      earlier = λ j under. refl;
      passed = λ j high under. absurd (omega arith);
      granted = λ j high under x. omega arith;
      behind = λ j high small. refl;
      ending = ran (omega arith) (λ j e. before j (omega arith) e);
    }
    sweep_tail (suc n) k l long left before =
        by_mark (λ m is first. sweep_tail n (k + 1) m is (omega arith) first) (packet_at l number k).marked refl
      where
        by_mark : ((m : List ℕ) → Long m → Before (k + 1) m → Tail (k + 1) m (sweep slots finished v number n (k + 1) m)) → (b : Bool) → (packet_at l number k).marked ≡ b
            → Tail k l (elim b [
              | true ↦ sweep slots finished v number n (k + 1) l
              | false ↦ swept_at slots finished v number (seen_at k) k l (λ m. sweep slots finished v number n (k + 1) m)
            ])
        by_mark rest true m =
            let t = rest l long (λ j q z. let i : j ≡ k = omega arith in inl (ap (λ (x : ℕ). (packet_at l number x).marked) i ∙ m)) in
            step k l l (sweep slots finished v number n (k + 1) l) (λ j d. refl) (λ b. stays_marked b (seen_at k) (packet_at l number k) m) (λ x. false≢true (sym x.1 ∙ m)) t t.ending
        by_mark rest false m = by_place k l long (omega arith) (λ x. sweep slots finished v number n (k + 1) x) rest m (seen_at k) refl

    -- The walk over a record's packets settles each of them.
    pub sweep_settles : (packets : List ℕ) → Long packets → Settles slots finished v number packets (sweep slots finished v number v.count 0 packets)
    sweep_settles packets long =
        let t = sweep_tail v.count 0 packets long (omega arith) (λ j q z. absurd (omega arith)) in
        record { upto = t.upto; within = t.within; passed = λ k low. t.passed k (omega arith) low; granted = λ k low. t.granted k (omega arith) low; behind = t.behind; ending = t.ending }

-- The walk over packet records is the dock's walk over words: where the block's packets are those that a record's words say, the walk ends as the dock's
-- definition says, and its packets, put back into their words, are the words that the definition leaves. Assumes nothing.
use Rattle.std.specs.Prelude.{Option, Some, None}
use Prim.Native.Nat.{ℕ, zero, suc, ◌+◌, ◌-◌, ◌*◌, ◌≤◌, ◌<◌}
use mathlib.Core.Bool.{Bool, true, false, false≢true}
use mathlib.Core.List.{List}
use mathlib.Core.Logic.{inl, inr, ⊎_elim}
use mathlib.Core.Path.{◌≡◌, refl, sym, ap, ◌∙◌, subst}
use native.Mathlib.Numerals.{add-one}
use native.Mathlib.Omega.{arith}
use borrow.Author.Tests.{eqb-true, eq-eqb, ne_eqb}
use lib.Dec.{eqb}
use lib.ListN.{length, get_or, set, length-set}
use lib.Seq.{get_or-set_same, get_or-set_other}
use Rattle.base.specs.First.{pick}
use Rattle.base.proofs.Compare.{same_or_not}
use Rattle.base.proofs.Decide.{if_so}
use Rattle.sizes.specs.Sizes.{most_slots, record_count, packet_count, packets_size}
use Rattle.trb.specs.declared.Words.{Words}
use Rattle.finished.specs.Finished.{finished_at}
use Rattle.packets.specs.Packets.{packet_at, put_packet}
use Rattle.packets.specs.declared.Packet.{Packet}
use Rattle.records.specs.declared.Record.{Record}
use Rattle.dock.specs.Reclaim.{code_of, remaining_of, place_of, counted, close_below, Swept, fatal, found, swept_by as dock_swept, swept_at, sweep}
use Rattle.dock.specs.Worth.{Worth, bytes, refused, worth}
use Rattle.dock.proofs.ReclaimNeedLaws.{first_place}
use Rattle.dock.proofs.RetireLaws.{picked}
use Rattle.dock.proofs.ReclaimSettleLaws.{close_behind}
use Rattle.marking.specs.declared.Block.{Block}
use Rattle.marking.specs.declared.Ended.TheVariants.{Open, Found}
use Rattle.marking.specs.declared.Standing.{Standing}
use Rattle.marking.specs.declared.Turned.{Turned}
use Rattle.marking.specs.Marking.{begin_of, onward, again, broken, after, closed_of, credit_of, worth_by, seen_of, turn_of, nowhere, turn_at, turns, Walked, walked}
use Rattle.marking.specs.Words.{swept_by, keep_one, keep_below}
use Rattle.marking.proofs.FitLaws.{by_fitting}
use Rattle.marking.proofs.KeepLaws.{set_same, Mirrors, kept_is, kept_marked, kept_put}
use Rattle.marking.proofs.PlaceLaws.{place_next}
use Rattle.marking.proofs.WalkLaws.{turns_end, turns_on}

-- ---- closing, packet by packet

-- An unmarked packet is closed with 0.
abbrev closed : List ℕ → ℕ → ℕ → List ℕ
closed l number k = pick (packet_at l number k).marked l (put_packet l number k (counted (packet_at l number k) 0))

close_by : (b : Bool) (x y : List ℕ) → pick b x y ≡ elim b [ true ↦ x | false ↦ y ]
close_by true x y = refl
close_by false x y = refl

close_more : (k : ℕ) (l : List ℕ) (number : ℕ) → closed (close_below k l number) number k ≡ close_below (k + 1) l number
unfolding close_below
close_more k l number =
    let m = close_below k l number in
    rw (add-one k) (close_by (packet_at m number k).marked m (put_packet m number k (counted (packet_at m number k) 0)))

close_none : (l : List ℕ) (number : ℕ) → close_below 0 l number ≡ l
unfolding close_below
close_none l number = refl

module _ (slots : ℕ) (finished : List ℕ) (v : Record) (number : ℕ) (inside : number < record_count) (l : List ℕ) (long : packets_size ≤ length l)
    (few : v.count ≤ packet_count) (first : ℕ) (low : v.place + 1 < slots) where
  -- Packet j of the block, and the words once the block's packets are put back.
  abbrev held : List Packet → ℕ → Packet
  held ps j = get_or ps (first + j) nowhere

  abbrev words : List Packet → List ℕ
  words ps = keep_below v.count l number (held ps)

  -- Where the walk stands at packet k, while it looks for the last packet and while it closes.
  abbrev open_at : ℕ → Standing
  open_at k = record { at = first + k; end = first + v.count; first = first; place = place_of slots v.place k; slots = slots; ended = Open }

  abbrev closing_at : ℕ → ℕ → ℕ → Standing
  closing_at k p code = record { at = first + k; end = first + v.count; first = first; place = p; slots = slots; ended = Found code }

  -- The block's packets mirror the record's words, and those from k on are as the words say.
  record Mirror (k : ℕ) (ps : List Packet) : Type 0 where
    wide : first + v.count ≤ length ps
    mirrors : (j : ℕ) → j < v.count → Mirrors number inside (packet_at l number j) (held ps j)
    ahead : (j : ℕ) → k ≤ j → j < v.count → held ps j ≡ packet_at l number j

  -- What a walk comes to: how it ended, and the words.
  abbrev comes : Walked → Swept × List ℕ
  comes w = (swept_by w.standing, words w.packets)

  -- ---- one packet changed

  module _ (k : ℕ) (ps : List Packet) (m : Mirror k ps) (i : ℕ) (under : i < v.count) (q : Packet) where
    set_here : held (set ps (first + i) q) i ≡ q
    set_here = get_or-set_same ps (first + i) q nowhere (let w = m.wide in omega arith)

    apart : (j : ℕ) → (j ≡ i → ⊥) → held (set ps (first + i) q) j ≡ held ps j
    apart j d = get_or-set_other ps (first + i) (first + j) q nowhere (λ e. d (omega arith))

    as_wide : first + v.count ≤ length (set ps (first + i) q)
    as_wide = let w = m.wide in omega (arith, length-set ps (first + i) q)

    module _ (clear : (packet_at l number i).marked ≡ false) (new : q.marked ≡ true) where
      words_put : words (set ps (first + i) q) ≡ put_packet (words ps) number i q
      words_put =
          kept_put number inside l (held ps) (held (set ps (first + i) q)) i clear (ap (λ (p : Packet). p.marked) set_here ∙ new) apart v.count under
          ∙ ap (put_packet (words ps) number i) set_here

      set_mirror : (k' : ℕ) → k ≤ k' → i < k' → Mirror k' (set ps (first + i) q)
      set_mirror k' on past = record {
        wide = as_wide;
        mirrors = λ j u.
            ⊎_elim
            (λ (e : j ≡ i). inr (ap (λ (x : ℕ). (packet_at l number x).marked) e ∙ clear, ap (λ (x : ℕ). (held (set ps (first + i) q) x).marked) e ∙ ap (λ (p : Packet). p.marked) set_here ∙ new))
            (λ (d : j ≡ i → ⊥). subst (λ (p : Packet). Mirrors number inside (packet_at l number j) p) (sym (apart j d)) (m.mirrors j u))
            (same_or_not j i);
        ahead = λ j u z. apart j (λ e. omega arith) ∙ m.ahead j (omega arith) z;
      }

  -- A packet put back as it was changes nothing.
  put_back : (k : ℕ) (ps : List Packet) → Mirror k ps → (i : ℕ) → i < v.count → set ps (first + i) (held ps i) ≡ ps
  put_back k ps m i under = set_same ps (first + i) nowhere (let w = m.wide in omega arith)

  onwards : (k k' : ℕ) (ps : List Packet) → k ≤ k' → Mirror k ps → Mirror k' ps
  onwards k k' ps on m = record { wide = m.wide; mirrors = m.mirrors; ahead = λ j u z. m.ahead j (omega arith) z }

  -- ---- a turn of a walk that goes on

  module _ (fuel : ℕ) (s : Standing) (ps : List Packet) (some : 0 < fuel) (turning : s.at < s.end) where
    next_turn : (t : Turned) → turn_at s ps finished ≡ t → turns fuel s ps finished ≡ turns (fuel - 1) t.standing (set ps s.at t.packet) finished
    next_turn t is =
        let one : fuel ≡ suc (fuel - 1) = omega arith in
        ap (λ (n : ℕ). turns n s ps finished) one ∙ turns_on s ps finished (fuel - 1) t turning (sym is)

  -- ---- closing

  module _ (p code : ℕ) (base : List ℕ) where
    close_turn : (i : ℕ) (ps : List Packet) → turn_at (closing_at i p code) ps finished ≡ after (closed_of (held ps i)) (closing_at (i + 1) p code)
    unfolding turn_of
    close_turn i ps = let next : (first + i) + 1 ≡ first + (i + 1) = omega arith in rw next

    -- The words of one packet closed.
    module _ (i : ℕ) (ps : List Packet) (m : Mirror v.count ps) (under : i < v.count) where
      abbrev one : Packet
      one = held ps i

      clear_word : one.marked ≡ false → one ≡ packet_at l number i
      clear_word c = ⊎_elim (λ (e : one ≡ packet_at l number i). e) (λ e. absurd (false≢true (sym c ∙ e.1))) (m.mirrors i under)

      close_step : (b : Bool) → one.marked ≡ b
          → (words (set ps (first + i) (pick b one (counted one 0))) ≡ closed (words ps) number i) × Mirror v.count (set ps (first + i) (pick b one (counted one 0)))
      close_step true b =
          let marks : (packet_at (words ps) number i).marked ≡ true = kept_marked number inside l long v.count few (held ps) i under (m.mirrors i under) ∙ b in
          let same = put_back v.count ps m i under in
          (ap words same ∙ rw marks, subst (Mirror v.count) (sym same) m)
      close_step false b =
          let word = clear_word b in
          let read : packet_at (words ps) number i ≡ one = kept_is number inside l long v.count few (held ps) i under word in
          let clear : (packet_at l number i).marked ≡ false = sym (ap (λ (x : Packet). x.marked) word) ∙ b in
          let open-word : (packet_at (words ps) number i).marked ≡ false = ap (λ (x : Packet). x.marked) read ∙ b in (
            words_put v.count ps m i under (counted one 0) clear refl ∙ ap (λ (x : Packet). put_packet (words ps) number i (counted x 0)) (sym read) ∙ rw open-word,
            set_mirror v.count ps m i under (counted one 0) clear refl v.count (omega arith) under,
          )

    closed_step : (i : ℕ) (ps : List Packet) (m : Mirror v.count ps) (under : i < v.count)
        → (words (set ps (first + i) (closed_of (held ps i))) ≡ closed (words ps) number i) × Mirror v.count (set ps (first + i) (closed_of (held ps i)))
    unfolding closed_of
    closed_step i ps m under = close_step i ps m under (held ps i).marked refl

    -- The packets from i on are closed.
    closing : (n i fuel : ℕ) (ps : List Packet) → n + i ≡ v.count → n ≤ fuel → Mirror v.count ps → words ps ≡ close_below i base number
        → comes (turns fuel (closing_at i p code) ps finished) ≡ (found code, close_below v.count base number)
    closing zero i fuel ps left enough m is =
        let done : i ≡ v.count = omega arith in
        ap comes (turns_end (closing_at i p code) ps finished fuel (omega arith)) ∙ ap (λ (x : List ℕ). (found code, x)) (is ∙ ap (λ (k : ℕ). close_below k base number) done)
    closing (suc n) i fuel ps left enough m is =
        let q = closed_of (held ps i) in
        let s = closed_step i ps m (omega arith) in
        ap comes (next_turn fuel (closing_at i p code) ps (omega arith) (omega arith) (after q (closing_at (i + 1) p code)) (close_turn i ps))
        ∙ closing n (i + 1) (fuel - 1) (set ps (first + i) q) (omega arith) (omega arith) s.1 (s.0 ∙ ap (λ (x : List ℕ). closed x number i) is ∙ close_more i base number)

  -- ---- looking for the last packet

  on_is : (k : ℕ) → onward (open_at k) ≡ open_at (k + 1)
  on_is k = let next : (first + k) + 1 ≡ first + (k + 1) = omega arith in rw (next, place_next slots v.place low k)

  last_is : (k : ℕ) → eqb ((first + k) + 1) (first + v.count) ≡ eqb (k + 1) v.count
  last_is k =
      ⊎_elim
      (λ (e : k + 1 ≡ v.count). eq-eqb ((first + k) + 1) (first + v.count) (omega arith) ∙ sym (eq-eqb (k + 1) v.count e))
      (λ (d : k + 1 ≡ v.count → ⊥). ne_eqb ((first + k) + 1) (first + v.count) (λ (e : (first + k) + 1 ≡ first + v.count). d (omega arith)) ∙ sym (ne_eqb (k + 1) v.count d))
      (same_or_not (k + 1) v.count)

  module _ (k : ℕ) (ps : List Packet) (m : Mirror k ps) (under : k < v.count) (fuel : ℕ) (enough : v.count < fuel) where
    abbrev p : Packet
    p = held ps k

    abbrev f : Option Words
    f = finished_at finished (place_of slots v.place k)

    read : packet_at (words ps) number k ≡ p
    read = kept_is number inside l long v.count few (held ps) k under (m.ahead k (omega arith) under)

    one_turn : (t : Turned) → turn_at (open_at k) ps finished ≡ t → comes (turns fuel (open_at k) ps finished) ≡ comes (turns (fuel - 1) t.standing (set ps (first + k) t.packet) finished)
    one_turn t is = ap comes (next_turn fuel (open_at k) ps (omega arith) (omega arith) t is)

    module _ (more : List ℕ → Swept × List ℕ) (rest : (qs : List Packet) → Mirror (k + 1) qs → comes (turns (fuel - 1) (open_at (k + 1)) qs finished) ≡ more (words qs)) where
      -- A packet that is passed by.
      passed : turn_at (open_at k) ps finished ≡ after p (onward (open_at k)) → comes (turns fuel (open_at k) ps finished) ≡ more (words ps)
      passed is =
          one_turn (after p (onward (open_at k))) is
          ∙ ap (λ (s : Standing). comes (turns (fuel - 1) s (set ps (first + k) p) finished)) (on_is k)
          ∙ ap (λ (qs : List Packet). comes (turns (fuel - 1) (open_at (k + 1)) qs finished)) (put_back k ps m k under)
          ∙ rest ps (onwards k (k + 1) ps (omega arith) m)

      module _ (clear : p.marked ≡ false) where
        turned : turn_at (open_at k) ps finished ≡ seen_of f p (open_at k)
        unfolding turn_of
        turned = rw clear

        word_clear : (packet_at l number k).marked ≡ false
        word_clear = sym (ap (λ (x : Packet). x.marked) (m.ahead k (omega arith) under)) ∙ clear

        module _ (w : Words) (here : f ≡ Some w) where
          seen : (x : Worth) → worth (code_of w) p.requested (remaining_of w) ≡ x → turn_at (open_at k) ps finished ≡ worth_by x p (code_of w) (open_at k)
          unfolding seen_of
          seen x is = turned ∙ rw (here, is)

          -- The last packet is found: the others are closed.
          module _ (n : ℕ) (is : worth (code_of w) p.requested (remaining_of w) ≡ bytes n) where
            abbrev qs : List Packet
            qs = set ps (first + k) (counted p n)

            abbrev put : List ℕ
            put = put_packet (words ps) number k (counted p n)

            put_is : words qs ≡ put
            put_is = words_put k ps m k under (counted p n) word_clear refl

            mirror : (k' : ℕ) → k < k' → Mirror k' qs
            mirror k' past = set_mirror k ps m k under (counted p n) word_clear refl k' (omega arith) past

            -- Closing the last packet too changes nothing: it is marked.
            last_closed : k + 1 ≡ v.count → close_below v.count (words qs) number ≡ close_below k (words qs) number
            last_closed e =
                let marks : (packet_at (close_below k (words qs) number) number k).marked ≡ true =
                ap (λ (x : Packet). x.marked) (close_behind number inside k (words qs) k (omega arith) (omega arith))
                ∙ kept_marked number inside l long v.count few (held qs) k under ((mirror (k + 1) (omega arith)).mirrors k under)
                ∙ ap (λ (x : Packet). x.marked) (here_is) in
                ap (λ (i : ℕ). close_below i (words qs) number) (sym e) ∙ sym (close_more k (words qs) number) ∙ rw marks
              where
                here_is : held qs k ≡ counted p n
                here_is = set_here k ps m k under (counted p n)

            by_last : (b : Bool) → eqb (k + 1) v.count ≡ b
                → let end : Swept × List ℕ = elim b [ true ↦ (found (code_of w), close_below k put number) | false ↦ more put ] in
                comes (turns (fuel - 1) (pick b (again (open_at k) (code_of w)) (onward (open_at k))) qs finished) ≡ end
            by_last true e =
                let start : first ≡ first + 0 = omega arith in
                let last = eqb-true (k + 1) v.count e in
                ap (λ (s : Standing). comes (turns (fuel - 1) s qs finished)) (ap (λ (x : ℕ). record { at = x; end = first + v.count; first = first; place = place_of slots v.place k; slots = slots; ended = Found (code_of w) }) start)
                ∙ closing (place_of slots v.place k) (code_of w) (words qs) v.count 0 (fuel - 1) qs (omega arith) (omega arith) (mirror v.count under) (sym (close_none (words qs) number))
                ∙ ap (λ (x : List ℕ). (found (code_of w), x)) (last_closed last ∙ ap (λ (x : List ℕ). close_below k x number) put_is)
            by_last false e =
                ap (λ (s : Standing). comes (turns (fuel - 1) s qs finished)) (on_is k) ∙ rest qs (mirror (k + 1) (omega arith)) ∙ ap more put_is

            credited : credit_of p n (code_of w) (open_at k) ≡ after (counted p n) (pick (eqb (k + 1) v.count) (again (open_at k) (code_of w)) (onward (open_at k)))
            unfolding credit_of
            credited = rw (last_is k)

          by_worth : (x : Worth) → worth (code_of w) p.requested (remaining_of w) ≡ x
              → comes (turns fuel (open_at k) ps finished) ≡ dock_swept slots finished v number x (code_of w) k (words ps) more
          by_worth refused is =
              one_turn (after p (broken (open_at k) (code_of w))) (seen refused is)
              ∙ ap comes (turns_end (broken (open_at k) (code_of w)) (set ps (first + k) p) finished (fuel - 1) (omega arith))
              ∙ ap (λ (qs : List Packet). (fatal (code_of w), words qs)) (put_back k ps m k under)
          by_worth (bytes n) is =
              let end : Packet → Swept × List ℕ = λ x.
              let marked = put_packet (words ps) number k (counted x n) in
              elim (eqb (k + 1) v.count) [ true ↦ (found (code_of w), close_below k marked number) | false ↦ more marked ] in
              one_turn (after (counted p n) (pick (eqb (k + 1) v.count) (again (open_at k) (code_of w)) (onward (open_at k)))) (seen (bytes n) is ∙ credited n is)
              ∙ by_last n is (eqb (k + 1) v.count) refl
              ∙ ap end (sym read)

        by_place : (g : Option Words) → f ≡ g → comes (turns fuel (open_at k) ps finished) ≡ swept_at slots finished v number g k (words ps) more
        unfolding seen_of
        by_place None here = passed (turned ∙ rw here)
        by_place (Some w) here =
            by_worth w here (worth (code_of w) p.requested (remaining_of w)) refl
            ∙ ap (λ (x : Packet). dock_swept slots finished v number (worth (code_of w) x.requested (remaining_of w)) (code_of w) k (words ps) more) (sym read)

  -- The walk from packet k on is the dock's.
  walking : (n k fuel : ℕ) (ps : List Packet) → n + k ≡ v.count → n + v.count ≤ fuel → Mirror k ps
      → comes (turns fuel (open_at k) ps finished) ≡ sweep slots finished v number n k (words ps)
  unfolding sweep turn_of
  walking zero k fuel ps left enough m = ap comes (turns_end (open_at k) ps finished fuel (omega arith))
  walking (suc n) k fuel ps left enough m =
      by_mark (λ qs x. walking n (k + 1) (fuel - 1) qs (omega arith) (omega arith) x) (held ps k).marked refl
      ∙ ap
      (λ (x : Packet). elim x.marked as (λ (b : Bool). Swept × List ℕ) [
        | true ↦ sweep slots finished v number n (k + 1) (words ps)
        | false ↦ swept_at slots finished v number (finished_at finished (place_of slots v.place k)) k (words ps) (λ (x : List ℕ). sweep slots finished v number n (k + 1) x)
      ])
      (sym (read k ps m (omega arith) fuel (omega arith)))
    where
      by_mark : ((qs : List Packet) → Mirror (k + 1) qs → comes (turns (fuel - 1) (open_at (k + 1)) qs finished) ≡ sweep slots finished v number n (k + 1) (words qs))
          → (b : Bool) → (held ps k).marked ≡ b
          → let end : Swept × List ℕ = elim b [
            | true ↦ sweep slots finished v number n (k + 1) (words ps)
            | false ↦ swept_at slots finished v number (finished_at finished (place_of slots v.place k)) k (words ps) (λ (x : List ℕ). sweep slots finished v number n (k + 1) x)
          ] in
          comes (turns fuel (open_at k) ps finished) ≡ end
      by_mark rest true b = passed k ps m (omega arith) fuel (omega arith) (λ (x : List ℕ). sweep slots finished v number n (k + 1) x) rest (rw b)
      by_mark rest false b =
          by_place k ps m (omega arith) fuel (omega arith) (λ (x : List ℕ). sweep slots finished v number n (k + 1) x) rest b (finished_at finished (place_of slots v.place k)) refl

  -- ---- the whole walk

  module _ (ps : List Packet) (wide : first + v.count ≤ length ps) (table : length finished ≡ 4 * slots) (most : slots ≤ most_slots)
      (same : (j : ℕ) → j < v.count → held ps j ≡ packet_at l number j) where
    abbrev its : Block
    its = record { first = first; count = v.count; place = v.place; slots = slots }

    begins : begin_of (length ps) (length finished) its ≡ open_at 0
    unfolding begin_of
    begins =
        let fits = if_so (by_fitting (length ps) (length finished) its) (record { most = most; place = low; table = table; within = wide }) in
        let start : first ≡ first + 0 = omega arith in
        rw fits
        (ap (λ (x : ℕ). record { at = x; end = first + v.count; first = first; place = v.place; slots = slots; ended = Open }) start
        ∙ ap (λ (x : ℕ). record { at = first + 0; end = first + v.count; first = first; place = x; slots = slots; ended = Open }) (first_place slots v.place low))

    mirrored : Mirror 0 ps
    mirrored = record { wide = wide; mirrors = λ j u. inl (same j u); ahead = λ j z u. same j u }

    -- Nothing is kept where nothing is marked.
    none_kept : (n : ℕ) → n ≤ v.count → keep_below n l number (held ps) ≡ l
    unfolding keep_below keep_one
    none_kept zero few = refl
    none_kept (suc n) few =
        ap (λ (x : List ℕ). keep_one x number n (held ps n)) (none_kept n (omega arith))
        ∙ picked (λ (x : List ℕ). x ≡ l) (packet_at l number n).marked _ _ (λ t. refl)
        (λ t. picked (λ (x : List ℕ). x ≡ l) (held ps n).marked _ _
        (λ u. absurd (false≢true (sym t ∙ sym (ap (λ (x : Packet). x.marked) (same n (omega arith))) ∙ u)))
        (λ u. refl))

    -- The walk over the block's packet records ends as the dock's walk over the record's words, and leaves those words.
    pub mirrors_sweep : comes (walked ps finished its) ≡ sweep slots finished v number v.count 0 l
    unfolding walked
    mirrors_sweep =
        ap (λ (s : Standing). comes (turns (2 * v.count) s ps finished)) begins
        ∙ walking v.count 0 (2 * v.count) ps (omega arith) (omega arith) mirrored
        ∙ ap (sweep slots finished v number v.count 0) (none_kept v.count (omega arith))

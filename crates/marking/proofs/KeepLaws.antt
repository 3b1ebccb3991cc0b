-- Packets that go back into their words: what is then read of each, and that one more marked packet is one more word put. Assumes nothing.
use Prim.Native.Nat.{ℕ, zero, suc, ◌≤◌, ◌<◌}
use mathlib.Core.Bool.{Bool, true, false, false≢true}
use mathlib.Core.List.{List, [], ◌∷◌}
use mathlib.Core.Logic.{◌⊎◌, inl, inr, ⊎_elim}
use mathlib.Core.Path.{◌≡◌, refl, sym, ap, ◌∙◌, subst}
use native.Mathlib.Omega.{arith}
use lib.ListN.{length, get_or, set}
use lib.Seq.{get_or-set_same}
use Rattle.base.specs.First.{pick}
use Rattle.base.proofs.Compare.{same_or_not}
use Rattle.base.proofs.ReadBack.{read_back, flag_read}
use Rattle.sizes.specs.Sizes.{record_count, packet_count, packets_size}
use Rattle.packets.specs.Packets.{packet_index, packet_of, packet_fields, packet_word, packet_at, put_packet}
use Rattle.packets.specs.declared.Packet.{Packet}
use Rattle.packets.proofs.PacketLaws.{packet_other}
use Rattle.dock.proofs.ReclaimLaws.{put_long}
use Rattle.dock.proofs.RetireLaws.{picked}
use Rattle.marking.specs.Words.{keep_one, keep_below}

-- ---- lists

pub set_again : {A : Type 0} (l : List A) (i : ℕ) (a c : A) → set (set l i a) i c ≡ set l i c
set_again [] i a c = refl
set_again (x ∷ xs) zero a c = refl
set_again (x ∷ xs) (suc i) a c = ap (λ l. x ∷ l) (set_again xs i a c)

pub set_apart : {A : Type 0} (l : List A) (i j : ℕ) (a c : A) → (i ≡ j → ⊥) → set (set l i a) j c ≡ set (set l j c) i a
set_apart [] i j a c d = refl
set_apart (x ∷ xs) zero zero a c d = absurd (d refl)
set_apart (x ∷ xs) zero (suc j) a c d = refl
set_apart (x ∷ xs) (suc i) zero a c d = refl
set_apart (x ∷ xs) (suc i) (suc j) a c d = ap (λ l. x ∷ l) (set_apart xs i j a c (λ e. d (ap suc e)))

pub set_same : {A : Type 0} (l : List A) (i : ℕ) (d : A) → i < length l → set l i (get_or l i d) ≡ l
set_same [] i d h = absurd (omega arith)
set_same (x ∷ xs) zero d h = refl
set_same (x ∷ xs) (suc i) d h = ap (λ l. x ∷ l) (set_same xs i d (omega arith))

-- ---- packets in their words

module _ (number : ℕ) (inside : number < record_count) where
  abbrev pub Long : List ℕ → Type 0
  Long l = packets_size ≤ length l

  put_apart : (l : List ℕ) (j k : ℕ) (p q : Packet) → (j ≡ k → ⊥) → put_packet (put_packet l number j p) number k q ≡ put_packet (put_packet l number k q) number j p
  unfolding put_packet
  put_apart l j k p q d = set_apart l (packet_index number j) (packet_index number k) (packet_word p) (packet_word q) (λ e. d (omega arith))

  put_again : (l : List ℕ) (k : ℕ) (p q : Packet) → put_packet (put_packet l number k p) number k q ≡ put_packet l number k q
  unfolding put_packet
  put_again l k p q = set_again l (packet_index number k) (packet_word p) (packet_word q)

  put_other : (l : List ℕ) (k : ℕ) (p : Packet) (j : ℕ) → (j ≡ k → ⊥) → packet_at (put_packet l number k p) number j ≡ packet_at l number j
  put_other l k p j d = packet_other l number k p number j (λ e. d (omega arith))

  -- The mark of a packet is read back.
  put_marked : (l : List ℕ) (k : ℕ) (p : Packet) → Long l → k < packet_count → (packet_at (put_packet l number k p) number k).marked ≡ p.marked
  unfolding packet_at put_packet
  put_marked l k p long small =
      ap (λ (w : ℕ). (packet_of w).marked) (get_or-set_same l (packet_index number k) (packet_word p) 0 (omega arith))
      ∙ rw (read_back 0 64 (packet_fields p) 2 refl (omega arith), flag_read p.marked)

  keep_long : (l : List ℕ) (k : ℕ) (p : Packet) → Long l → Long (keep_one l number k p)
  unfolding keep_one
  keep_long l k p long =
      picked Long (packet_at l number k).marked _ _ (λ t. long) (λ t. picked Long p.marked _ _ (λ u. let n = put_long l number k p in omega arith) (λ u. long))

  pub below_long : (n : ℕ) (l : List ℕ) (ps : ℕ → Packet) → Long l → Long (keep_below n l number ps)
  unfolding keep_below
  below_long zero l ps long = long
  below_long (suc n) l ps long = keep_long (keep_below n l number ps) n (ps n) (below_long n l ps long)

  -- A packet that is kept changes no other.
  keep_other : (l : List ℕ) (k : ℕ) (p : Packet) (j : ℕ) → (j ≡ k → ⊥) → packet_at (keep_one l number k p) number j ≡ packet_at l number j
  unfolding keep_one
  keep_other l k p j d =
      picked (λ (x : List ℕ). packet_at x number j ≡ packet_at l number j) (packet_at l number k).marked _ _ (λ t. refl)
      (λ t. picked (λ (x : List ℕ). packet_at x number j ≡ packet_at l number j) p.marked _ _ (λ u. put_other l k p j d) (λ u. refl))

  -- The packets from n on are as they were,
  pub below_behind : (n : ℕ) (l : List ℕ) (ps : ℕ → Packet) (j : ℕ) → n ≤ j → packet_at (keep_below n l number ps) number j ≡ packet_at l number j
  unfolding keep_below
  below_behind zero l ps j low = refl
  below_behind (suc n) l ps j low = keep_other (keep_below n l number ps) n (ps n) j (λ e. omega arith) ∙ below_behind n l ps j (omega arith)

  -- and of one below it is read what is kept of it.
  pub below_reads : (n : ℕ) (l : List ℕ) (ps : ℕ → Packet) (j : ℕ) → j < n → packet_at (keep_below n l number ps) number j ≡ packet_at (keep_one (keep_below j l number ps) number j (ps j)) number j
  unfolding keep_below
  below_reads zero l ps j low = absurd (omega arith)
  below_reads (suc n) l ps j low =
      ⊎_elim
      (λ (e : j ≡ n). ap (λ (i : ℕ). packet_at (keep_one (keep_below n l number ps) number n (ps n)) number i) e ∙ ap (λ (i : ℕ). packet_at (keep_one (keep_below i l number ps) number i (ps i)) number i) (sym e))
      (λ (d : j ≡ n → ⊥). keep_other (keep_below n l number ps) n (ps n) j d ∙ below_reads n l ps j (omega (arith, d)))
      (same_or_not j n)

  pub below_same : (n : ℕ) (l : List ℕ) (ps qs : ℕ → Packet) → ((j : ℕ) → j < n → qs j ≡ ps j) → keep_below n l number qs ≡ keep_below n l number ps
  unfolding keep_below
  below_same zero l ps qs same = refl
  below_same (suc n) l ps qs same =
      ap (λ (x : List ℕ). keep_one x number n (qs n)) (below_same n l ps qs (λ j low. same j (omega arith)))
      ∙ ap (keep_one (keep_below n l number ps) number n) (same n (omega arith))

  -- ---- packet records that mirror their words

  keep_same : (l : List ℕ) (k : ℕ) (p : Packet) → packet_at l number k ≡ p → packet_at (keep_one l number k p) number k ≡ p
  unfolding keep_one
  keep_same l k p is =
      picked (λ (x : List ℕ). packet_at x number k ≡ p) (packet_at l number k).marked _ _ (λ t. is)
      (λ t. picked (λ (x : List ℕ). packet_at x number k ≡ p) p.marked _ _
      (λ u. absurd (false≢true (sym t ∙ ap (λ (x : Packet). x.marked) is ∙ u)))
      (λ u. is))

  keep_new : (l : List ℕ) (k : ℕ) (p : Packet) → (packet_at l number k).marked ≡ false → p.marked ≡ true → keep_one l number k p ≡ put_packet l number k p
  unfolding keep_one
  keep_new l k p clear new = rw (clear, new)

  -- A packet record is what its word says, or has been marked since.
  abbrev pub Mirrors : Packet → Packet → Type 0
  Mirrors w p = (p ≡ w) ⊎ ((w.marked ≡ false) × (p.marked ≡ true))

  module _ (l : List ℕ) (long : Long l) (n : ℕ) (few : n ≤ packet_count) (ps : ℕ → Packet) (j : ℕ) (low : j < n) where
    -- What is read of a packet that is as its word says is that packet,
    pub kept_is : ps j ≡ packet_at l number j → packet_at (keep_below n l number ps) number j ≡ ps j
    kept_is same =
        below_reads n l ps j low
        ∙ keep_same (keep_below j l number ps) j (ps j) (below_behind j l ps j (omega arith) ∙ sym same)

    -- and of any the mark.
    pub kept_marked : Mirrors (packet_at l number j) (ps j) → (packet_at (keep_below n l number ps) number j).marked ≡ (ps j).marked
    kept_marked (inl same) = ap (λ (p : Packet). p.marked) (kept_is same)
    kept_marked (inr new) =
        let x = keep_below j l number ps in
        let clear : (packet_at x number j).marked ≡ false = ap (λ (p : Packet). p.marked) (below_behind j l ps j (omega arith)) ∙ new.0 in
        ap (λ (p : Packet). p.marked) (below_reads n l ps j low)
        ∙ ap (λ (y : List ℕ). (packet_at y number j).marked) (keep_new x j (ps j) clear new.1)
        ∙ put_marked x j (ps j) (below_long j l ps long) (omega arith)

  -- ---- one packet more

  module _ (l : List ℕ) (ps qs : ℕ → Packet) (k : ℕ) (clear : (packet_at l number k).marked ≡ false) (new : (qs k).marked ≡ true)
      (apart : (j : ℕ) → (j ≡ k → ⊥) → qs j ≡ ps j) where
    keep_again : (x : List ℕ) (p : Packet) → put_packet (keep_one x number k p) number k (qs k) ≡ put_packet x number k (qs k)
    unfolding keep_one
    keep_again x p =
        picked (λ (y : List ℕ). put_packet y number k (qs k) ≡ put_packet x number k (qs k)) (packet_at x number k).marked _ _ (λ t. refl)
        (λ t. picked (λ (y : List ℕ). put_packet y number k (qs k) ≡ put_packet x number k (qs k)) p.marked _ _ (λ u. put_again x k p (qs k)) (λ u. refl))

    keep_apart : (x : List ℕ) (j : ℕ) (p : Packet) → (j ≡ k → ⊥) → keep_one (put_packet x number k (qs k)) number j p ≡ put_packet (keep_one x number j p) number k (qs k)
    unfolding keep_one
    keep_apart x j p d =
        ap (λ (y : Packet). pick y.marked (put_packet x number k (qs k)) (pick p.marked (put_packet (put_packet x number k (qs k)) number j p) (put_packet x number k (qs k)))) (put_other x k (qs k) j d)
        ∙ by_mark (packet_at x number j).marked p.marked
      where
        by_mark : (a b : Bool) → pick a (put_packet x number k (qs k)) (pick b (put_packet (put_packet x number k (qs k)) number j p) (put_packet x number k (qs k)))
            ≡ put_packet (pick a x (pick b (put_packet x number j p) x)) number k (qs k)
        by_mark true b = refl
        by_mark false true = put_apart x k j (qs k) p (λ e. d (sym e))
        by_mark false false = refl

    -- Where packet k is newly marked, its word is put.
    pub kept_put : (n : ℕ) → k < n → keep_below n l number qs ≡ put_packet (keep_below n l number ps) number k (qs k)
    unfolding keep_below
    kept_put zero low = absurd (omega arith)
    kept_put (suc n) low =
        by_place (λ (d : n ≡ k → ⊥). kept_put n (omega (arith, d))) (same_or_not n k)
      where
        by_place : ((n ≡ k → ⊥) → keep_below n l number qs ≡ put_packet (keep_below n l number ps) number k (qs k)) → (n ≡ k) ⊎ (n ≡ k → ⊥)
            → keep_one (keep_below n l number qs) number n (qs n) ≡ put_packet (keep_one (keep_below n l number ps) number n (ps n)) number k (qs k)
        by_place lower (inl e) =
            let x = keep_below n l number ps in
            ap (λ (y : List ℕ). keep_one y number n (qs n)) (below_same n l ps qs (λ j u. apart j (λ q. omega arith)))
            ∙ subst (λ (i : ℕ). keep_one x number i (qs i) ≡ put_packet (keep_one x number i (ps i)) number k (qs k)) (sym e)
            (keep_new x k (qs k) (ap (λ (p : Packet). p.marked) (below_behind n l ps k (omega arith)) ∙ clear) new ∙ sym (keep_again x (ps k)))
        by_place lower (inr d) =
            ap (λ (y : List ℕ). keep_one y number n (qs n)) (lower d)
            ∙ keep_apart (keep_below n l number ps) n (qs n) d
            ∙ ap (λ (p : Packet). put_packet (keep_one (keep_below n l number ps) number n p) number k (qs k)) (apart n d)

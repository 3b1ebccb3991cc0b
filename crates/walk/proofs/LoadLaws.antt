-- A block of 64 packets that is read from a record's words: its packets are those that the words say; and packets that go back, one by one.
-- Assumes nothing.
use Prim.Native.Nat.{ℕ, zero, suc, ◌+◌, ◌≤◌, ◌<◌}
use mathlib.Core.List.{List}
use mathlib.Core.Logic.{⊎_elim}
use mathlib.Core.Path.{◌≡◌, refl, sym, ap, ◌∙◌, subst}
use native.Mathlib.Numerals.{add-one}
use native.Mathlib.Omega.{arith}
use lib.ListN.{length, get_or, set, length-set, length-replicate}
use lib.Seq.{get_or-set_same, get_or-set_other}
use Rattle.base.proofs.Compare.{same_or_not}
use Rattle.sizes.specs.Sizes.{packet_count, packets_size}
use Rattle.packets.specs.Packets.{packet_at}
use Rattle.packets.specs.declared.Packet.{Packet}
use Rattle.records.specs.declared.Record.{Record}
use Rattle.dock.specs.Reclaim.{Swept, sweep}
use Rattle.marking.specs.declared.Block.{Block}
use Rattle.marking.specs.Marking.{nowhere, walked}
use Rattle.marking.specs.Words.{swept_by, keep_one, keep_below}
use Rattle.marking.proofs.KeepLaws.{below_same}
use Rattle.marking.proofs.MirrorLaws.{mirrors_sweep}
use Rattle.checks.specs.Shown.{Shown}
use Rattle.walk.specs.Loaded.{loaded}

module _ (l : List ℕ) (number : ℕ) where
  pub loaded_long : (n : ℕ) → length (loaded n l number) ≡ packet_count
  unfolding loaded
  loaded_long zero = length-replicate packet_count nowhere
  loaded_long (suc n) = length-set (loaded n l number) n (packet_at l number n) ∙ loaded_long n

  pub loaded_more : (n : ℕ) → set (loaded n l number) n (packet_at l number n) ≡ loaded (n + 1) l number
  unfolding loaded
  loaded_more n = rw (add-one n) refl

  pub loaded_at : (n : ℕ) → n ≤ packet_count → (j : ℕ) → j < n → get_or (loaded n l number) j nowhere ≡ packet_at l number j
  unfolding loaded
  loaded_at zero few j low = absurd (omega arith)
  loaded_at (suc n) few j low =
      ⊎_elim
      (λ (e : j ≡ n).
      subst (λ (i : ℕ). get_or (set (loaded n l number) n (packet_at l number n)) i nowhere ≡ packet_at l number i) (sym e)
      (get_or-set_same (loaded n l number) n (packet_at l number n) nowhere (let k = loaded_long n in omega arith)))
      (λ (d : j ≡ n → ⊥). get_or-set_other (loaded n l number) n j (packet_at l number n) nowhere d ∙ loaded_at n (omega arith) j (omega (arith, d)))
      (same_or_not j n)

-- ---- the packets that go back into their words

pub keep_none : (l : List ℕ) (number : ℕ) (ps : ℕ → Packet) → l ≡ keep_below 0 l number ps
unfolding keep_below
keep_none l number ps = refl

pub keep_more : (n : ℕ) (l : List ℕ) (number : ℕ) (ps : ℕ → Packet) → keep_one (keep_below n l number ps) number n (ps n) ≡ keep_below (n + 1) l number ps
unfolding keep_below
keep_more n l number ps = rw (add-one n) refl

-- ---- the whole walk

module _ (slots : ℕ) (finished : List ℕ) (v : Record) (number : ℕ) (l : List ℕ) (flying : Shown slots (length finished) v.place number) (long : length l ≡ packets_size)
    (few : v.count ≤ packet_count) where
  abbrev its : Block
  its = record { first = 0; count = v.count; place = v.place; slots = slots }

  -- The packets out of their words, walked over and put back, are the dock's walk.
  pub walk_swept : (ps : List Packet) → ps ≡ loaded v.count l number → (r : Swept) (exit : List ℕ) → r ≡ swept_by (walked ps finished its).standing
      → exit ≡ keep_below v.count l number (λ (j : ℕ). get_or (walked ps finished its).packets j nowhere) → ◌≡◌ {A = Swept × List ℕ} (r, exit) (sweep slots finished v number v.count 0 l)
  walk_swept ps is r exit told kept =
      let after = (walked ps finished its).packets in
      let none : (j : ℕ) → 0 + j ≡ j = λ j. omega arith in
      ap (λ (x : Swept). (x, exit)) told
      ∙ ap (λ (x : List ℕ). (swept_by (walked ps finished its).standing, x))
      (kept ∙ below_same number flying.held v.count l (λ (j : ℕ). get_or after (0 + j) nowhere) (λ (j : ℕ). get_or after j nowhere) (λ j low. ap (λ (i : ℕ). get_or after i nowhere) (sym (none j))))
      ∙ mirrors_sweep slots finished v number flying.held l (omega arith) few 0 flying.place ps
      (subst (λ (x : List Packet). 0 + v.count ≤ length x) (sym is) (let k = loaded_long l number v.count in omega arith))
      flying.table flying.most
      (λ j low. ap (λ (i : ℕ). get_or ps i nowhere) (none j) ∙ subst (λ (x : List Packet). get_or x j nowhere ≡ packet_at l number j) (sym is) (loaded_at l number v.count few j low))

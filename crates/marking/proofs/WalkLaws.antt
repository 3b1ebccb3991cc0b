-- What a loop over the turns asks of the rule: how the turns go on and how they end, that each turn leaves fewer, that the places stay in the finished
-- table and the end where it is. Assumes nothing.
use Rattle.std.specs.Prelude.{Option, Some, None}
use Rattle.trb.specs.declared.Words.{Words}
use Prim.Native.Nat.{ℕ, zero, suc, ◌+◌, ◌-◌, ◌*◌, ◌≤◌, ◌<◌}
use mathlib.Core.Bool.{Bool, true, false}
use mathlib.Core.List.{List}
use mathlib.Core.Logic.{◌⊎◌, inl, inr, ⊎_elim}
use mathlib.Core.Path.{◌≡◌, refl, ◌∙◌, subst}
use native.Mathlib.Omega.{arith}
use borrow.Author.Tests.{ltb-true, lt-ltb, le-ltb, eqb-true, eqb-false}
use lib.Dec.{eqb, ltb}
use lib.ListN.{length, get_or, set}
use lib.Seq.{get_or-set_other}
use Rattle.base.specs.First.{pick}
use Rattle.finished.specs.Finished.{finished_at}
use Rattle.packets.specs.declared.Packet.{Packet}
use Rattle.dock.specs.Reclaim.{code_of, remaining_of}
use Rattle.dock.specs.Worth.{Worth, bytes, refused, worth}
use Rattle.dock.proofs.RetireLaws.{picked}
use Rattle.marking.specs.declared.Block.{Block}
use Rattle.marking.specs.declared.Standing.{Standing}
use Rattle.marking.specs.declared.Turned.{Turned}
use Rattle.marking.specs.Marking.{behind, is_found, started, unfit, fitting, begin_of, Fine, onward, moved_to, again, broken, credit_of, worth_by, seen_of, turn_of, nowhere, standing_at, turn_at, turns, walked}
use Rattle.marking.proofs.FitLaws.{by_fitting}

-- ---- the turns in order

module _ (s : Standing) (ps : List Packet) (finished : List ℕ) where
  pub turns_end : (n : ℕ) → s.end ≤ s.at → turns n s ps finished ≡ standing_at ps s
  unfolding turns
  turns_end zero e = refl
  turns_end (suc n) e = rw (le-ltb _ _ e)

  pub turns_on : (n : ℕ) (t : Turned) → s.at < s.end → t ≡ turn_at s ps finished → turns (suc n) s ps finished ≡ turns n t.standing (set ps s.at t.packet) finished
  unfolding turns
  turns_on n t low is = rw (← is, lt-ltb _ _ low)

-- ---- where a turn may leave the walk

-- The turns that are left at most: those to the end, and where the last packet is not found yet those from the first packet on again.
unfoldable pub left_turns : Standing → ℕ
left_turns s = pick (is_found s.ended) (s.end - s.at) ((s.end - s.at) + (s.end - s.first))

-- The first packet and the end stay, the walk stands between them, its places lie in the table, and fewer turns are left.
pub record Kept (s : Standing) (finished : ℕ) (t : Standing) : Type 0 where
  pub end : t.end ≡ s.end
  pub first : t.first ≡ s.first
  pub from : s.first ≤ s.at → t.first ≤ t.at
  pub fine : Fine t finished
  pub fewer : left_turns t + 1 ≤ left_turns s

behind_low : (slots p : ℕ) → p + 1 < slots → behind slots p + 1 < slots
behind_low slots p low = picked (λ (n : ℕ). n + 1 < slots) (eqb (p + 2) slots) 0 (p + 1) (λ t. omega arith) (λ t. let d = eqb-false (p + 2) slots t in omega arith)

module _ (s : Standing) (finished : ℕ) (low : s.at < s.end) (f : Fine s finished) where
  -- A walk that has found the last packet closes one packet more.
  closing : is_found s.ended ≡ true → Kept s finished (moved_to s (s.at + 1) s.place)
  unfolding left_turns
  closing is = record { end = refl; first = refl; from = λ h. omega arith; fine = record { place = f.place; table = f.table }; fewer = rw is (omega arith) }

  module _ (searching : is_found s.ended ≡ false) where
    on_kept : Kept s finished (onward s)
    unfolding left_turns
    on_kept = record { end = refl; first = refl; from = λ h. omega arith; fine = record { place = behind_low s.slots s.place f.place; table = f.table }; fewer = rw searching (omega arith) }

    again_kept : (code : ℕ) → s.at + 1 ≡ s.end → Kept s finished (again s code)
    unfolding left_turns
    again_kept code last = record { end = refl; first = refl; from = λ h. omega arith; fine = record { place = f.place; table = f.table }; fewer = rw searching (omega arith) }

    broken_kept : (code : ℕ) → Kept s finished (broken s code)
    unfolding left_turns
    broken_kept code = record { end = refl; first = refl; from = λ h. omega arith; fine = record { place = f.place; table = f.table }; fewer = rw searching (omega arith) }

    credit_kept : (p : Packet) (n code : ℕ) → Kept s finished (credit_of p n code s).standing
    unfolding credit_of
    credit_kept p n code =
        picked (Kept s finished) (eqb (s.at + 1) s.end) (again s code) (onward s) (λ t. again_kept code (eqb-true _ _ t)) (λ t. on_kept)

    worth_kept : (x : Worth) (p : Packet) (code : ℕ) → Kept s finished (worth_by x p code s).standing
    worth_kept refused p code = broken_kept code
    worth_kept (bytes n) p code = credit_kept p n code

    seen_kept : (g : Option Words) (p : Packet) → Kept s finished (seen_of g p s).standing
    unfolding seen_of
    seen_kept None p = on_kept
    seen_kept (Some w) p = worth_kept (worth (code_of w) p.requested (remaining_of w)) p (code_of w)

  pub turn_keeps : (p : Packet) (g : Option Words) → Kept s finished (turn_of p g s).standing
  unfolding turn_of
  turn_keeps p g =
      picked (λ (t : Turned). Kept s finished t.standing) (is_found s.ended) _ _ (λ t. closing t)
      (λ t. picked (λ (x : Turned). Kept s finished x.standing) p.marked _ _ (λ u. on_kept t) (λ u. seen_kept t g p))

-- Where turns are left to do, one is counted.
pub some_left : (s : Standing) → s.at < s.end → 1 ≤ left_turns s
unfolding left_turns
some_left s low = picked (λ (n : ℕ). 1 ≤ n) (is_found s.ended) _ _ (λ t. omega arith) (λ t. omega arith)

-- ---- the start

module _ (packets finished : ℕ) (b : Block) where
  -- A walk that begins has its places in the finished table and its packets in the table of packets,
  pub begin_fine : (begin_of packets finished b).at < (begin_of packets finished b).end → Fine (begin_of packets finished b) finished × ((begin_of packets finished b).end ≤ packets)
  unfolding begin_of
  begin_fine =
      picked (λ (s : Standing). s.at < s.end → Fine s finished × (s.end ≤ packets)) (fitting packets finished b) (started b) unfit
      (λ t low. let f = (by_fitting packets finished b).so t in (record { place = f.place; table = let q = f.table in omega arith }, f.within))
      (λ t low. absurd (omega arith))

  -- and at most two turns a packet.
  pub begin_left : left_turns (begin_of packets finished b) ≤ 2 * b.count
  unfolding begin_of left_turns
  begin_left =
      picked (λ (s : Standing). pick (is_found s.ended) (s.end - s.at) ((s.end - s.at) + (s.end - s.first)) ≤ 2 * b.count) (fitting packets finished b) (started b) unfit
      (λ t. omega arith) (λ t. omega arith)

-- ---- every other packet

-- A packet before the first or from the end on is left as it was.
pub turns_others : (n : ℕ) (s : Standing) (ps : List Packet) (finished : List ℕ) → s.first ≤ s.at → (s.at < s.end → Fine s (length finished))
    → (j : ℕ) → (j < s.first) ⊎ (s.end ≤ j) → get_or (turns n s ps finished).packets j nowhere ≡ get_or ps j nowhere
unfolding turns
turns_others zero s ps finished from fine j out = refl
turns_others (suc n) s ps finished from fine j out =
    by_test (λ low t k. turns_others n t (set ps s.at (turn_at s ps finished).packet) finished (k.from from) (λ u. k.fine) j (still low t k)) (ltb s.at s.end) refl
  where
    still : s.at < s.end → (t : Standing) → Kept s (length finished) t → (j < t.first) ⊎ (t.end ≤ j)
    still low t k = ⊎_elim (λ (h : j < s.first). inl (omega (arith, k.first))) (λ (h : s.end ≤ j). inr (omega (arith, k.end))) out

    apart : s.at < s.end → j ≡ s.at → ⊥
    apart low e = ⊎_elim (λ (h : j < s.first). omega arith) (λ (h : s.end ≤ j). omega arith) out

    by_test : (s.at < s.end → (t : Standing) → Kept s (length finished) t
        → get_or (turns n t (set ps s.at (turn_at s ps finished).packet) finished).packets j nowhere ≡ get_or (set ps s.at (turn_at s ps finished).packet) j nowhere)
        → (b : Bool) → ltb s.at s.end ≡ b
        → get_or (pick b (turns n (turn_at s ps finished).standing (set ps s.at (turn_at s ps finished).packet) finished) (standing_at ps s)).packets j nowhere ≡ get_or ps j nowhere
    by_test rest true b =
        let low = ltb-true _ _ b in
        rest low (turn_at s ps finished).standing (turn_keeps s (length finished) low (fine low) (get_or ps s.at nowhere) (finished_at finished s.place))
        ∙ get_or-set_other ps s.at j (turn_at s ps finished).packet nowhere (apart low)
    by_test rest false b = refl

module _ (ps : List Packet) (finished : List ℕ) (b : Block) where
  begin_bounds : (s : Standing) → begin_of (length ps) (length finished) b ≡ s → (s.first ≤ s.at) × ((j : ℕ) → (j < b.first) ⊎ (b.first + b.count ≤ j) → (j < s.first) ⊎ (s.end ≤ j))
  unfolding begin_of
  begin_bounds s is =
      subst (λ (x : Standing). (x.first ≤ x.at) × ((j : ℕ) → (j < b.first) ⊎ (b.first + b.count ≤ j) → (j < x.first) ⊎ (x.end ≤ j))) is
      (picked (λ (x : Standing). (x.first ≤ x.at) × ((j : ℕ) → (j < b.first) ⊎ (b.first + b.count ≤ j) → (j < x.first) ⊎ (x.end ≤ j)))
      (fitting (length ps) (length finished) b) (started b) unfit (λ t. (omega arith, λ j out. out)) (λ t. (omega arith, λ j out. inr (omega arith))))

  -- Every packet outside the block is left as it was.
  pub walk_others : (j : ℕ) → (j < b.first) ⊎ (b.first + b.count ≤ j) → get_or (walked ps finished b).packets j nowhere ≡ get_or ps j nowhere
  unfolding walked
  walk_others j out =
      let s = begin_of (length ps) (length finished) b in
      let k = begin_bounds s refl in
      turns_others (2 * b.count) s ps finished k.0 (λ low. (begin_fine (length ps) (length finished) b low).0) j (k.1 j out)

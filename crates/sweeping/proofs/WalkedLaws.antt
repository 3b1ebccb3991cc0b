-- A walk on its way: the turns that are left give what the whole walk gives. Assumes nothing.
use Rattle.std.proofs.Common.{◌≡◌, ℕ, zero, suc, ◌*◌, ◌<◌, ◌≤◌, List, length, get_or, refl, sym, ap, ◌∙◌, arith}
use Rattle.std.proofs.Math.ListN.{set, length-set}
use Rattle.finished.specs.Finished.{finished_at}
use Rattle.packets.specs.declared.Packet.{Packet}
use Rattle.marking.specs.declared.Standing.{Standing}
use Rattle.marking.specs.declared.Turned.{Turned}
use Rattle.marking.specs.declared.Block.{Block}
use Rattle.marking.specs.Marking.{Fine, Walked, begin_of, turns, turn_of, nowhere, walked, standing_at}
use Rattle.marking.proofs.WalkLaws.{left_turns, Kept, turns_end, turns_on, turn_keeps, some_left, begin_fine, begin_left}

-- So many turns, from the packets ps and the standing s on, give what the whole walk over `packets` gives; while s stands before its end, its places lie in
-- the finished table and its end in the table of packets.
pub record Walks (packets : List Packet) (finished : List ℕ) (b : Block) (ps : List Packet) (s : Standing) : Type 0 where
  pub most : ℕ
  pub left : left_turns s ≤ most
  pub rest : turns most s ps finished ≡ walked packets finished b
  pub fine : s.at < s.end → Fine s (length finished) × (s.end ≤ length ps)

pub walks_begun : (packets : List Packet) (finished : List ℕ) (b : Block) {s : Standing} → s ≡ begin_of (length packets) (length finished) b
    → Walks packets finished b packets s
unfolding walked
walks_begun packets finished b e =
    rw e (record { most = 2 * b.count; left = begin_left (length packets) (length finished) b; rest = refl; fine = begin_fine (length packets) (length finished) b })

module _ {packets : List Packet} {finished : List ℕ} {b : Block} {ps : List Packet} {s : Standing} (w : Walks packets finished b ps s) where
  pub walks_ended : s.end ≤ s.at → (ps ≡ (walked packets finished b).packets) × (s ≡ (walked packets finished b).standing)
  walks_ended e =
      let r : standing_at ps s ≡ walked packets finished b = sym (turns_end s ps finished w.most e) ∙ w.rest in
      (ap (λ (x : Walked). x.packets) r, ap (λ (x : Walked). x.standing) r)

  module _ (low : s.at < s.end) {t : Turned} (is : t ≡ turn_of (get_or ps s.at nowhere) (finished_at finished s.place) s) where
    kept : Kept s (length finished) t.standing
    kept = rw is (turn_keeps s (length finished) low (w.fine low).0 (get_or ps s.at nowhere) (finished_at finished s.place))

    pub walks_fewer : left_turns t.standing < left_turns s
    walks_fewer = let k = kept.fewer in omega arith

    pub walks_on : Walks packets finished b (set ps s.at t.packet) t.standing
    walks_on =
        by_most w.most w.left w.rest
      where
        by_most : (n : ℕ) → left_turns s ≤ n → turns n s ps finished ≡ walked packets finished b → Walks packets finished b (set ps s.at t.packet) t.standing
        by_most zero l r = absurd (let some : 1 ≤ left_turns s = some_left s low in omega arith)
        by_most (suc n) l r =
            let f = kept.fewer in
            let e = kept.end in
            let q = (w.fine low).1 in
            record {
              most = n;
              left = omega arith;
              rest = sym (turns_on s ps finished n t low is) ∙ r;
              fine = λ h. (kept.fine, rw (length-set ps s.at t.packet) (omega arith));
            }

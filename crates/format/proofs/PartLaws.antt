-- A line that comes in parts. Bytes without a newline are fed one after the other (`scan_part`), a newline behind them ends the line (`scan_line`), and what
-- is fed in two parts is what is fed at once (`fed_in_parts`): so it makes no difference how the input is cut. Assumes nothing.
use Prim.Native.Nat.{ℕ, suc, ◌+◌}
use mathlib.Core.Bool.{Bool, true, false, not, ◌&&◌, false≢true}
use mathlib.Core.List.{List, [], ◌∷◌, ◌++◌}
use mathlib.Core.Path.{◌≡◌, refl, ap, ◌∙◌}
use native.Mathlib.Omega.{arith}
use lib.Dec.{eqb}
use lib.ListN.{length}
use Rattle.lines.specs.declared.Reading.{Reading}
use Rattle.lines.specs.declared.Scanned.{Scanned}
use Rattle.lines.specs.Reader.{feed, finish, feed_all, scan}
use Rattle.format.proofs.FormatLaws.{read_all}

-- No byte is a newline.
abbrev pub no_end : List ℕ → Bool
no_end [] = true
no_end (b ∷ bs) = not (eqb b 10) && no_end bs

-- The parts of that.
parted : (a b : Bool) → (not a && b) ≡ true → (a ≡ false) × (b ≡ true)
parted true b e = absurd (false≢true e)
parted false b e = (refl, e)

pub fed_in_parts : (a b : List ℕ) (r : Reading) (values : List ℕ) → feed_all (a ++ b) r values ≡ feed_all b (feed_all a r values).0 (feed_all a r values).1
unfolding feed_all
fed_in_parts [] b r values = refl
fed_in_parts (x ∷ a) b r values = fed_in_parts a b (feed r values x).0 (feed r values x).1

abbrev part : List ℕ → ℕ → Reading → List ℕ → Scanned × List ℕ
part bs at r values = (record { line = (feed_all bs r values).0; at = at + length bs; ended = false }, (feed_all bs r values).1)

pub scan_part : (bs : List ℕ) (at : ℕ) (r : Reading) (values : List ℕ) → no_end bs ≡ true → scan bs at r values ≡ part bs at r values
unfolding scan feed_all
scan_part [] at r values e =
    let same : at ≡ at + 0 = omega arith in
    ap (λ (n : ℕ). (record { line = r; at = n; ended = false }, values)) same
scan_part (b ∷ bs) at r values e =
    let k = parted (eqb b 10) (no_end bs) e in
    let f = feed r values b in
    let far : at + 1 + length bs ≡ at + suc (length bs) = omega arith in
    rw k.0
    (scan_part bs (at + 1) f.0 f.1 k.1
    ∙ ap (λ (n : ℕ). (record { line = (feed_all bs f.0 f.1).0; at = n; ended = false }, (feed_all bs f.0 f.1).1)) far)

abbrev whole : List ℕ → ℕ → Reading → List ℕ → Scanned × List ℕ
whole bs at r values = (record { line = (read_all bs r values).0; at = at + length bs + 1; ended = true }, (read_all bs r values).1)

pub scan_line : (bs rest : List ℕ) (at : ℕ) (r : Reading) (values : List ℕ) → no_end bs ≡ true → scan (bs ++ 10 ∷ rest) at r values ≡ whole bs at r values
unfolding scan feed_all
scan_line [] rest at r values e =
    let same : at + 1 ≡ at + 0 + 1 = omega arith in
    ap (λ (n : ℕ). (record { line = (finish r values).0; at = n; ended = true }, (finish r values).1)) same
scan_line (b ∷ bs) rest at r values e =
    let k = parted (eqb b 10) (no_end bs) e in
    let f = feed r values b in
    let far : at + 1 + length bs + 1 ≡ at + suc (length bs) + 1 = omega arith in
    rw k.0
    (scan_line bs rest (at + 1) f.0 f.1 k.1
    ∙ ap (λ (n : ℕ). (record { line = (read_all bs f.0 f.1).0; at = n; ended = true }, (read_all bs f.0 f.1).1)) far)

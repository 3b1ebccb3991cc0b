-- `scan` meets its contract, byte by byte. Assumes nothing.
use Rattle.lines.proofs.ScanLaws.{scan_ends, scan_goes}
use Prim.Native.Nat.{ℕ, ◌+◌}
use mathlib.Core.Bool.{true, false}
use mathlib.Core.List.{List}
use mathlib.Core.Path.{◌≡◌, sym, ap, ◌∙◌}
use native.Mathlib.Omega.{arith}
use lib.ListN.{drop, drop_of_length-le}
use Rattle.lines.specs.declared.Reading.{Reading}
use Rattle.lines.specs.Reader.{scan}
use Rattle.lines.proofs.scan.Goals as goal

pub returns-then-bytes-at-eq10 : goal.returns-then-bytes-at-eq10
returns-then-bytes-at-eq10 c =
    let l = c.loop-at in
    let b = c.args.bytes.now in
    ap (λ (x : Reading × List ℕ). (record { line = x.0; at = l.at + 1; ended = true }, x.1)) c.finish.ensures ∙ scan_ends b l.at l.line l.values (omega arith) c.if-bytes-at-eq10.true ∙ l.invariant.1

pub loop-at-preserved : goal.loop-at-preserved
loop-at-preserved c =
    let l = c.loop-at in
    let b = c.args.bytes.now in
    (omega arith, ap (λ (x : Reading × List ℕ). scan (drop (l.at + 1) b) (l.at + 1) x.0 x.1) c.feed-line.ensures ∙ scan_goes b l.at l.line l.values (omega arith) c.if-bytes-at-eq10.false ∙ l.invariant.1)

pub returns : goal.returns
unfolding scan
returns c =
    let l = c.loop-at in
    let b = c.args.bytes.now in
    let there : c.max.result ≡ l.at = omega (arith, l.invariant.0) in
    ap (λ (n : ℕ). (record { line = l.line; at = n; ended = false }, l.values)) there
    ∙ ap (λ (x : List ℕ). scan x l.at l.line l.values) (sym (drop_of_length-le b {i = l.at} (omega arith)))
    ∙ l.invariant.1

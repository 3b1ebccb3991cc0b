-- A scan, byte by byte: at a newline the line ends, and any other byte is fed to it. Assumes nothing.
use Prim.Native.Nat.{ℕ, ◌+◌, ◌<◌}
use mathlib.Core.Bool.{true}
use mathlib.Core.List.{List, ◌∷◌}
use mathlib.Core.Path.{◌≡◌, sym, ap, ◌∙◌}
use native.Mathlib.Numerals.{add-one}
use borrow.Author.Tests.{eq-eqb, ne_eqb}
use lib.ListN.{length, get_or, drop}
use lib.Seq.{drop-cons}
use Rattle.lines.specs.declared.Reading.{Reading}
use Rattle.lines.specs.declared.Scanned.{Scanned}
use Rattle.lines.specs.Reader.{feed, finish, scan}

module _ (bytes : List ℕ) (at : ℕ) (r : Reading) (values : List ℕ) (here : at < length bytes) where
  first : scan (drop at bytes) at r values ≡ scan (get_or bytes at 0 ∷ drop (at + 1) bytes) at r values
  first = rw (add-one at) (ap (λ (l : List ℕ). scan l at r values) (drop-cons bytes at 0 here))

  pub scan_ends : get_or bytes at 0 ≡ 10
      → ◌≡◌ {A = Scanned × List ℕ} (record { line = (finish r values).0; at = at + 1; ended = true }, (finish r values).1) (scan (drop at bytes) at r values)
  unfolding scan
  scan_ends e = sym (first ∙ rw (eq-eqb (get_or bytes at 0) 10 e))

  pub scan_goes : (get_or bytes at 0 ≡ 10 → ⊥)
      → scan (drop (at + 1) bytes) (at + 1) (feed r values (get_or bytes at 0)).0 (feed r values (get_or bytes at 0)).1 ≡ scan (drop at bytes) at r values
  unfolding scan
  scan_goes d = sym (first ∙ rw (ne_eqb (get_or bytes at 0) 10 d))

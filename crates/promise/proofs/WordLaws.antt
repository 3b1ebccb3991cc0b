-- A record that is put leaves every word of every other record, also those of no kind and no state, which read alike. Assumes nothing.
use Prim.Native.Nat.{ℕ, ◌+◌, ◌*◌, ◌≤◌, ◌<◌}
use mathlib.Core.List.{List}
use mathlib.Core.Logic.{⊎_elim}
use mathlib.Core.Path.{◌≡◌, refl}
use native.Mathlib.Omega.{arith}
use lib.ListN.{length}
use Rattle.base.specs.Part.{put}
use Rattle.base.proofs.Compare.{compared}
use Rattle.base.proofs.Lent.{put_before, put_behind}
use Rattle.sizes.specs.Sizes.{record_words}
use Rattle.records.specs.Records.{word_at, record_list}
use Rattle.records.specs.declared.Record.{Record}

pub words_other : (l : List ℕ) (r : ℕ) (v : Record) → record_words * r + record_words ≤ length l → (s k : ℕ) → (s ≡ r → ⊥) → k < record_words
    → word_at (put record_words l r (record_list v)) s k ≡ word_at l s k
words_other l r v fits s k differs h =
    ⊎_elim
    (λ (e : s ≡ r). absurd (differs e))
    (⊎_elim
    (λ (b : s < r). put_before record_words l r (record_list v) refl fits (record_words * s + k) (omega arith))
    (λ (b : r < s). put_behind record_words l r (record_list v) refl fits (record_words * s + k) (omega arith)))
    (compared s r)

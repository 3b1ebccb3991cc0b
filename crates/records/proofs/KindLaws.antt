-- A kind is read back from its word, and the test of two kinds decides whether they are the same. Assumes nothing.
use mathlib.Core.Bool.{true, false}
use Prim.Native.Nat.{ℕ}
use mathlib.Core.Path.{◌≡◌, refl, sym, ◌∙◌}
use borrow.Author.Tests.{eqb-true, eqb-false, eq-eqb}
use Rattle.std.specs.Prelude.{Option, Some, None}
use Rattle.base.proofs.Decide.{Decides, if_not}
use Rattle.records.specs.Kinds.{kind_in, word_of_kind, kind_is}
use Rattle.records.specs.declared.Kind.{Kind}
use Rattle.records.specs.declared.Kind.TheVariants.{Control, Bulk, Interrupt, Isoch}

-- A kind is read back from its word.
pub kind_read : (kind : Option Kind) → kind_in (word_of_kind kind) ≡ kind
kind_read None = refl
kind_read (Some Control) = refl
kind_read (Some Bulk) = refl
kind_read (Some Interrupt) = refl
kind_read (Some Isoch) = refl

-- The five readings of the test.
pub kind_true : (a b : ℕ) → kind_is a b ≡ true → a ≡ b
kind_true a b t = eqb-true a b t

pub eq_kind : (a b : ℕ) → a ≡ b → kind_is a b ≡ true
eq_kind a b q = eq-eqb a b q

pub kind_false : (a b : ℕ) → kind_is a b ≡ false → a ≡ b → ⊥
kind_false a b t q = eqb-false a b t q

pub by_kind : (a b : ℕ) → Decides (kind_is a b) (a ≡ b)
by_kind a b = record { so = kind_true a b; not_so = kind_false a b }

pub ne_kind : (a b : ℕ) → (a ≡ b → ⊥) → kind_is a b ≡ false
ne_kind a b n = if_not (by_kind a b) n

-- A kind is no other.
pub kinds_apart : (kind a b : ℕ) → kind_is a b ≡ false → kind ≡ a → kind ≡ b → ⊥
kinds_apart kind a b t p q = kind_false a b t (sym p ∙ q)

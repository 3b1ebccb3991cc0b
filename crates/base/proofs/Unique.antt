-- A contract that is an equation with a function of the entry leaves no choice: two results that meet it are equal. Assumes nothing.
use mathlib.Core.Path.{◌≡◌, sym, ◌∙◌}

pub unique : {R : Type 0} {a b result : R} → a ≡ result → b ≡ result → a ≡ b
unique p q = p ∙ sym q

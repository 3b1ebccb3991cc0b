-- The controller's steps, as a drive takes and writes them.
use Rattle.std.specs.Prelude.{ℕ, zero, suc, ◌/◌, List, [], ◌∷◌, Option, Some, None, ltb, length}
use Rattle.base.specs.First.{pick}
use Rattle.controller.specs.Rule.{step}
use Rattle.controller.specs.declared.Consumer.{Consumer}
use Rattle.controller.specs.declared.Step.{Step}
use Rattle.controller.specs.declared.Step.TheVariants.{Nothing, Linked, Took}
use Rattle.page.specs.Page.{Page, put_all}
use Rattle.phrases.specs.Text.{slot_line, stands_line}

-- took.
abbrev pub took_text : List ℕ
took_text = 116 ∷ 111 ∷ 111 ∷ 107 ∷ []

-- One step: where the controller then stands, if it did anything, and the line of a TRB that it took from slot `slot`.
abbrev pub stride_by : Step → ℕ → Consumer → Page → Option Consumer × Page
stride_by Nothing slot after p = (None, p)
stride_by Linked slot after p = (Some after, p)
stride_by (Took w) slot after p = (Some after, put_all p (slot_line took_text slot w))

-- Past the ring's end there is no slot, and nothing happens.
unfoldable pub stride : List ℕ → Consumer → Page → Option Consumer × Page
stride ring c p = pick (ltb c.slot (length ring / 4)) (stride_by (step ring c).step c.slot (step ring c).after p) (None, p)

-- So many steps; "stops sooner where a step does nothing".
abbrev pub walk_by : Option Consumer → Consumer → Page → (Consumer → Page → Consumer × Page) → Consumer × Page
walk_by None c p rest = (c, p)
walk_by (Some after) c p rest = rest after p

unfoldable pub walk : ℕ → List ℕ → Consumer → Page → Consumer × Page
walk zero ring c p = (c, p)
walk (suc n) ring c p = let s = stride ring c p in walk_by s.0 c s.1 (λ c p. walk n ring c p)

-- Then where it stands.
unfoldable pub walked : ℕ → List ℕ → Consumer → Page → Consumer × Page
walked n ring c p = let w = walk n ring c p in (w.0, put_all w.1 (stands_line w.0))

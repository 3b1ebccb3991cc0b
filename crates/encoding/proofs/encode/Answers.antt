-- `encoding::encode` meets its contract: the words of the TRB, put into the part. Assumes nothing.
use mathlib.Core.Path.{ap, ◌∙◌}
use Rattle.base.specs.Part.{filled}
use Rattle.trb.specs.Layouts.{listed}
use Rattle.trb.specs.declared.Words.{Words}
use Rattle.encoding.proofs.encode.Goals as goal

pub returns : goal.returns
returns c =
    let a = c.args in
    let e = c.words_of.ensures in
    c.put_words.ensures ∙ ap (λ (w : Words). filled 4 a.part.now (listed w)) e

-- `records::record_at` meets its contract: the part of the table that is the record. Assumes nothing.
use mathlib.Core.Path.{◌∙◌}
use Rattle.records.proofs.RecordLaws.{of_part}
use Rattle.records.proofs.record_at.Goals as goal

pub returns : goal.returns
returns c =
    let a = c.args in c.record_of.ensures ∙ of_part a.records.now a.r

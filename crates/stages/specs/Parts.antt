-- The part of a control request's reclaim behind its setup.
use Rattle.std.specs.Prelude.{ℕ, List, Option}
use Rattle.trb.specs.declared.Words.{Words}
use Rattle.finished.specs.Finished.{finished_at}
use Rattle.records.specs.Records.{recorded_word, set_word}
use Rattle.records.specs.declared.Record.{Record}
use Rattle.dock.specs.Reclaim.{status_by, stage_by, after_stage, recorded_by, status_place}
use Rattle.dock.specs.declared.Endpoint.{Endpoint}
use Rattle.dock.specs.declared.After.{After}
use Rattle.dock.specs.declared.Reclaimed.{Reclaimed}

-- A control request whose setup has no refused event, with what stands at its data: the answer, and the records.
unfoldable pub after_setup : Option Words → Endpoint → List ℕ → List ℕ → Record → ℕ → After Reclaimed × List ℕ
after_setup seen e finished records v number = (
  after_stage (stage_by seen e v number) (status_by (finished_at finished (status_place e v)) e v number (recorded_by seen v)),
  set_word records number recorded_word (recorded_by seen v),
)

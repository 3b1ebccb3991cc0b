-- The reclaim of a held record.
use Rattle.std.specs.Prelude.{ℕ, List, Some}
use Rattle.dock.specs.Reclaim.{reclaim_found}
use Rattle.dock.specs.declared.Endpoint.{Endpoint}
use Rattle.dock.specs.declared.After.{After}
use Rattle.dock.specs.declared.Reclaimed.{Reclaimed}

-- Record r, by its state.
unfoldable pub reclaim_at : ℕ → Endpoint → List ℕ → List ℕ → List ℕ → After Reclaimed × List ℕ × List ℕ
reclaim_at r e finished records packets = reclaim_found (Some r) e finished records packets

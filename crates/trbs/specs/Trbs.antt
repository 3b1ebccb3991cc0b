-- The TRBs of a request, with the size of its packet read already.
use Rattle.std.specs.Prelude.{ℕ, ◌&&◌, eqb, ltb}
use Rattle.base.specs.First.{pick}
use Rattle.trb.specs.declared.Trb.{Trb}
use Rattle.records.specs.Kinds.{kind_is, control, isoch}
use Rattle.records.specs.declared.Record.{Record}
use Rattle.dock.specs.declared.Endpoint.{Endpoint}
use Rattle.dock.specs.Trbs.{setup_trb, data_trb, status_trb, normal_trb, isoch_trb}

-- The first TRB of a deferred TD, which goes by its record alone: a control request's setup.
unfoldable pub first_of : Record → Trb
first_of v = setup_trb v

-- TRB k of a control request.
unfoldable pub control_trb : Record → ℕ → Trb
control_trb v k = pick (eqb k 0) (setup_trb v) (pick (eqb k 1 && ltb 0 v.length) (data_trb v) (status_trb v))

-- TRB k of a record's request, whose packet k asks for so many bytes.
unfoldable pub trb_with : Endpoint → Record → ℕ → ℕ → Trb
trb_with e v size k = pick (kind_is v.kind control) (control_trb v k) (pick (kind_is v.kind isoch) (isoch_trb e v k size) (normal_trb e v))

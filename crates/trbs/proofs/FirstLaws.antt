-- The first TRB of a deferred TD as the code makes it is the one that `dock` names. Assumes nothing.
use Prim.Native.Nat.{ℕ}
use mathlib.Core.Bool.{true}
use mathlib.Core.List.{List}
use mathlib.Core.Path.{◌≡◌, sym}
use Rattle.records.specs.declared.Record.{Record}
use Rattle.dock.specs.declared.Endpoint.{Endpoint}
use Rattle.dock.specs.Trbs.{deferred, first_trb}
use Rattle.dock.proofs.TdLaws.{first_setup}
use Rattle.trbs.specs.Trbs.{first_of}

pub first_of_lem : (e : Endpoint) (v : Record) (packets : List ℕ) → deferred v ≡ true → first_of v ≡ first_trb e v packets
unfolding first_of
first_of_lem e v packets late = sym (first_setup e v packets late)

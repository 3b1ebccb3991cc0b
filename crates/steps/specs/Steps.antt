-- What a store changes of the endpoint, and what it answers.
use Rattle.std.specs.Prelude.{ℕ, ◌+◌, ◌%◌, ◌^◌, Ok}
use Rattle.base.specs.First.{pick}
use Rattle.ring.specs.declared.Position.{Position}
use Rattle.records.specs.Kinds.{kind_is, isoch}
use Rattle.records.specs.declared.Record.{Record}
use Rattle.dock.specs.declared.Endpoint.{Endpoint}
use Rattle.dock.specs.declared.After.{After}
use Rattle.dock.specs.declared.Stored.{Stored}
use Rattle.dock.specs.declared.Stored.TheVariants.{Slot, Last}
use Rattle.dock.specs.RowOne.{next_of, is_none}
use Rattle.dock.specs.State.{with_store}
use Rattle.dock.specs.NextStore.{with_stored, frame_on, settled}

-- The running address behind a packet of so many bytes.
abbrev pub run_with : Endpoint → Record → ℕ → ℕ
run_with e v size = pick (kind_is v.kind isoch) ((e.work.address + size) % 2 ^ 64) e.work.address

-- The endpoint after a TRB's store, which left the producer at p.
unfoldable pub advanced_by : Endpoint → Position → Record → ℕ → Endpoint
advanced_by e p v size = with_store e p (frame_on e v) (with_stored e.work (e.work.stored + 1) (run_with e v size))

-- The answer of a store that changed a slot and left this endpoint.
unfoldable pub concluded_by : Endpoint → Record → ℕ → After Stored
concluded_by after v slot =
    record {
      answer = pick (is_none (next_of after v)) (Ok (Last slot v.id after.who.dci)) (Ok (Slot slot));
      endpoint = settled after v;
    }

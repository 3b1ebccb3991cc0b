-- A whole submission by its kind, with the packet lengths read as they were given.
use Rattle.std.specs.Prelude.{ℕ, ◌*◌, List, ◌≡◌, length, Ok}
use Rattle.std.proofs.Math.Seq.{paste}
use Rattle.base.specs.First.{pick}
use Rattle.ring.specs.declared.Position.{Position}
use Rattle.sizes.specs.Sizes.{ring_size, packet_count, packets_size}
use Rattle.records.specs.Kinds.{kind_is, isoch}
use Rattle.records.specs.declared.Record.{Record}
use Rattle.dock.specs.declared.Endpoint.{Endpoint}
use Rattle.dock.specs.declared.After.{After}
use Rattle.dock.specs.declared.Submitted.{Submitted}
use Rattle.dock.specs.Start.{at_least_one}
use Rattle.dock.specs.State.{idle, with_store}
use Rattle.dock.specs.Trbs.{normal_trb, deferred, chained}
use Rattle.checks.specs.Shown.{Shown}
use Rattle.isoch.specs.declared.Pen.{Pen}
use Rattle.striding.specs.Deferred.{put_same, deferred_put}
use Rattle.isoch.specs.Packed.{all_put}

-- The end: the id and the doorbell word, the pen's position and frame, nothing under way.
abbrev pub ended : Endpoint → ℕ → Position → ℕ → After Submitted
ended e id p frame = record { answer = Ok (record { id = id; bell = e.who.dci }); endpoint = with_store e p frame idle }

abbrev pub pen_of : Endpoint → Pen
pen_of e = record { at = e.at; address = e.work.address; frame = e.periodic.frame }

-- Ring, finished table and packets behind a whole submission, by the kind of its record.
unfoldable pub sent_isoch : Endpoint → Record → List ℕ → List ℕ → List ℕ → List ℕ → After Submitted × List ℕ × List ℕ × List ℕ
sent_isoch e v ring finished packets sizes =
    let s = all_put e.shape e.periodic v.incoming sizes (pen_of e) ring finished in
    (ended e v.id s.0.at s.0.frame, s.1, s.2, paste packets (packet_count * e.work.number) sizes (length sizes))

unfoldable pub plain_put : Endpoint → Record → List ℕ → List ℕ → Position × List ℕ × List ℕ
plain_put e v ring finished =
    pick (deferred v) (deferred_put e.shape (chained e v) e.at v ring finished) (put_same e.shape (chained e v) e.at (normal_trb e v) ring finished)

unfoldable pub sent_by : Endpoint → Record → List ℕ → List ℕ → List ℕ → List ℕ → After Submitted × List ℕ × List ℕ × List ℕ
sent_by e v ring finished packets lengths =
    let s = plain_put e v ring finished in
    pick (kind_is v.kind isoch) (sent_isoch e v ring finished packets (at_least_one lengths))
    (ended e v.id s.0 e.periodic.frame, s.1, s.2, packets)

-- What a whole submission needs of its tests: what they have shown of the finished table, the producer's place and the record, and the sizes of the other
-- tables.
abbrev pub Sendable : Endpoint → ℕ → ℕ → ℕ → Type 0
Sendable e ring finished packets =
    Shown e.shape.slots finished e.at.place e.work.number × (ring ≡ ring_size e.shape.slots) × (packets ≡ packets_size)

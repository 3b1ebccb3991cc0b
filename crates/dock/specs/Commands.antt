-- The command words of stop and resume, and where the producer stands. Document 01: "dci << 16, slot id << 24 in w3; 16 has the place's address
-- and, in bit 0 of w0, the cycle; w3 bit 0 is 0".
use Rattle.std.specs.Prelude.{false, eqb, Result, Ok, Err}
use Rattle.base.specs.First.{pick}
use Rattle.trb.specs.Layouts.{words_of}
use Rattle.trb.specs.declared.Words.{Words}
use Rattle.trb.specs.declared.Trb.TheVariants.{ResetEndpoint, StopEndpoint, SetDequeue}
use Rattle.ring.specs.Ring.{slot_address, enqueue_pointer}
use Rattle.ring.specs.declared.Pointer.{Pointer}
use Rattle.dock.specs.declared.Refusal.{Refusal}
use Rattle.dock.specs.Refusals.{refusal}
use Rattle.dock.specs.declared.Endpoint.{Endpoint}
use Rattle.dock.specs.Configure.{plain_no}

-- Reset Endpoint (14).
unfoldable pub reset_words : Endpoint → Words
reset_words e = words_of (ResetEndpoint e.who.dci e.who.slot) false

-- Set TR Dequeue (16): the controller goes on at the producer's place, with its cycle.
unfoldable pub dequeue_words : Endpoint → Words
dequeue_words e = words_of (SetDequeue (slot_address e.shape.base e.at.place) e.at.cycle e.who.dci e.who.slot) false

-- Stop Endpoint (15).
unfoldable pub stop_words : Endpoint → Words
stop_words e = words_of (StopEndpoint e.who.dci e.who.slot) false

unfoldable pub stop : Endpoint → Result Words Refusal
stop e = pick (eqb (plain_no e) 0) (Ok (stop_words e)) (Err (refusal (plain_no e)))

unfoldable pub resume : Endpoint → Result Words Refusal
resume e = pick (eqb (plain_no e) 0) (Ok (dequeue_words e)) (Err (refusal (plain_no e)))

unfoldable pub pointer : Endpoint → Result Pointer Refusal
pointer e = pick (eqb (plain_no e) 0) (Ok (enqueue_pointer e.shape.base e.at)) (Err (refusal (plain_no e)))

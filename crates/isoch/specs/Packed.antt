-- The packets of an ISO request, each stored behind the one before.
use Rattle.std.specs.Prelude.{ℕ, zero, suc, ◌+◌, ◌%◌, ◌^◌, Bool, false, not, List, length, ◌==◌, slice_index}
use Rattle.bursts.specs.Bursts.{bursts_of}
use Rattle.ring.specs.declared.Position.{Position}
use Rattle.dock.specs.declared.Periodic.{Periodic}
use Rattle.dock.specs.declared.Shape.{Shape}
use Rattle.dock.specs.Trbs.{packet_trb, frame_after}
use Rattle.isoch.specs.declared.Pen.{Pen}
use Rattle.striding.specs.Deferred.{put_same}

-- Behind a packet: the running address and the next frame number.
abbrev pub pen_on : Periodic → Pen → ℕ → Position → Pen
pen_on s pen size p =
    record { at = p; address = (pen.address + size) % 2 ^ 64; frame = frame_after pen.frame s.interval }

-- One packet's store, and the pen behind it. A packet is a TD of its own: its link is not chained.
unfoldable pub packet_put : Shape → Periodic → Bool → ℕ → Bool → Pen → List ℕ → List ℕ → Pen × List ℕ × List ℕ
packet_put shape s incoming size more pen ring finished =
    let d = put_same shape false pen.at (packet_trb (bursts_of size s.packet s.burst) incoming pen.address size more) ring finished in
    (pen_on s pen size d.0, d.1, d.2)

-- So many packets, from packet k on.
unfoldable pub packets_put : ℕ → ℕ → Shape → Periodic → Bool → List ℕ → Pen → List ℕ → List ℕ → Pen × List ℕ × List ℕ
packets_put zero k shape s incoming sizes pen ring finished = (pen, ring, finished)
packets_put (suc n) k shape s incoming sizes pen ring finished =
    let d = packet_put shape s incoming (slice_index sizes k) (not (k + 1 == length sizes)) pen ring finished in
    packets_put n (k + 1) shape s incoming sizes d.0 d.1 d.2

-- All of them.
abbrev pub all_put : Shape → Periodic → Bool → List ℕ → Pen → List ℕ → List ℕ → Pen × List ℕ × List ℕ
all_put shape s incoming sizes pen ring finished = packets_put (length sizes) 0 shape s incoming sizes pen ring finished

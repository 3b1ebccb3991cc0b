-- `encoding::words_of` meets its contract: in each arm the words are what their functions ensure. Assumes nothing.
use Rattle.trb.specs.Layouts.{words_of}
use Rattle.encoding.proofs.words_of.Goals as goal

pub returns-in-Normal : goal.returns-in-Normal
unfolding words_of
returns-in-Normal c =
    simp (c.in-Normal.is, c.low.ensures, c.high.ensures, c.sized.ensures, c.normal.ensures)

pub returns-in-Setup : goal.returns-in-Setup
unfolding words_of
returns-in-Setup c =
    simp (c.in-Setup.is, c.request.ensures, c.index.ensures, c.setup.ensures)

pub returns-in-Data : goal.returns-in-Data
unfolding words_of
returns-in-Data c =
    simp (c.in-Data.is, c.low-in-Data.ensures, c.high-in-Data.ensures, c.sized-in-Data.ensures, c.«data».ensures)

pub returns-in-Status : goal.returns-in-Status
unfolding words_of
returns-in-Status c = simp (c.in-Status.is, c.status.ensures)

pub returns-in-Isoch : goal.returns-in-Isoch
unfolding words_of
returns-in-Isoch c =
    simp (c.in-Isoch.is, c.low-in-Isoch.ensures, c.high-in-Isoch.ensures, c.sized-in-Isoch.ensures, c.isoch.ensures)

pub returns-in-Link : goal.returns-in-Link
unfolding words_of
returns-in-Link c =
    simp (c.in-Link.is, c.pointer.ensures, c.high-in-Link.ensures, c.link.ensures)

pub returns-in-ResetEndpoint : goal.returns-in-ResetEndpoint
unfolding words_of
returns-in-ResetEndpoint c = simp (c.in-ResetEndpoint.is, c.command.ensures)

pub returns-in-StopEndpoint : goal.returns-in-StopEndpoint
unfolding words_of
returns-in-StopEndpoint c = simp (c.in-StopEndpoint.is, c.command-in-StopEndpoint.ensures)

pub returns-in-SetDequeue : goal.returns-in-SetDequeue
unfolding words_of
returns-in-SetDequeue c =
    simp (c.in-SetDequeue.is, c.pointer-in-SetDequeue.ensures, c.high-in-SetDequeue.ensures, c.command-in-SetDequeue.ensures)

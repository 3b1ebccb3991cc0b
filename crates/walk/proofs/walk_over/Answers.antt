-- `walk::walk_over` meets its contract: the packets out of their words, walked over and put back, are the dock's walk. Assumes nothing.
use Prim.Native.Nat.{ℕ}
use mathlib.Core.List.{List}
use mathlib.Core.Path.{ap, ◌∙◌}
use lib.ListN.{get_or}
use Rattle.packets.specs.declared.Packet.{Packet}
use Rattle.marking.specs.Marking.{nowhere}
use Rattle.marking.specs.Words.{swept_by, swept_of, keep_below}
use Rattle.walk.proofs.LoadLaws.{walk_swept}
use Rattle.walk.proofs.walk_over.Goals as goal

pub returns : goal.returns
returns c =
    let a = c.args in
    let f = a.flight in
    let b = f.claim in
    let load = c.load-held in
    let done = c.marked_block-done in
    walk_swept b.endpoint.shape.slots f.finished.now b.record b.number a.packets.now f.shown c.requires.0 c.requires.1 load.result load.ensures
    (swept_of done.result.standing.ended) c.keep_all.new.packets
    (ap swept_by done.ensures.1)
    (c.keep_all.ensures
    ∙ ap (λ (ps : List Packet). keep_below b.record.count a.packets.now b.number (λ (j : ℕ). get_or ps j nowhere)) done.ensures.0)

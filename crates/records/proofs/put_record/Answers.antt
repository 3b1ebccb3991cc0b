-- `records::put_record` meets its contract: the part that was lent comes back as the record's words. Assumes nothing.
use Prim.Native.Nat.{◌+◌, ◌-◌, ◌*◌}
use mathlib.Core.Path.{◌≡◌}
use native.Mathlib.Omega.{arith}
use Rattle.base.specs.Part.{put}
use Rattle.sizes.specs.Sizes.{record_words}
use Rattle.records.proofs.put_record.Goals as goal

pub returns : goal.returns
unfolding put
returns c =
    let start = record_words * c.args.r in
    let size : start + record_words - start ≡ record_words = omega arith in
    rw (size, c.copy_from_slice.ensures.after, c.from-words.ensures)

-- `limits::limits_hold` meets its contract: the tests of the code decide the facts `Limits`. Assumes nothing.
use Rattle.std.proofs.Common.{◌≡◌, ◌-◌, ◌<◌, ◌≤◌, ◌/◌, ◌%◌, ◌^◌, ◌&&◌, eqb, leb, ◌∙◌, arith}
use Rattle.std.proofs.lemmas.Grind.{common_steps}
use Rattle.base.proofs.Decide.{both, by_eqb, by_leb, reworded, same_test}
use Rattle.dock.proofs.RefusalTestLaws.{by_limits}
use Rattle.dock.specs.Limits.{limits_hold}
use Rattle.dock.specs.declared.Identity.{Identity}
use Rattle.dock.specs.declared.Shape.{Shape}
use Rattle.limits.proofs.limits_hold.Goals as goal

-- The tests of the code, in its order.
tested : (shape : Shape) (who : Identity) → shape.base < 2 ^ 64 → who.slot ≤ 255
    → (leb 3 shape.slots && eqb (shape.base % 4096) 0 && leb shape.slots ((65536 - shape.base % 65536) / 16) && leb 1 who.dci && leb who.dci 31 && leb 1 who.slot)
    ≡ limits_hold shape who
tested shape who low most =
    same_test
    (reworded
    (λ k. record {
      slots_least = k.0.0.0.0.0;
      slots_most = omega arith;
      base_aligned = k.0.0.0.0.1;
      base_room = omega arith;
      base_whole = omega arith;
      dci_least = k.0.0.1;
      dci_most = k.0.1;
      slot_least = k.1;
      slot_most = most;
    })
    (λ k. (((((k.slots_least, k.base_aligned), omega (arith, k.base_room, k.base_whole)), k.dci_least), k.dci_most), k.slot_least))
    (both (both (both (both (both (by_leb 3 shape.slots) (by_eqb (shape.base % 4096) 0)) (by_leb shape.slots ((65536 - shape.base % 65536) / 16))) (by_leb 1 who.dci)) (by_leb who.dci 31)) (by_leb 1 who.slot)))
    (by_limits shape who)

pub returns-then-who-le-MOST_DCI : goal.returns-then-who-le-MOST_DCI
returns-then-who-le-MOST_DCI c =
    let a = c.args in grind (arith, common_steps) ∙ tested a.shape a.who (omega arith) (omega arith)

pub returns-else-who-le-MOST_DCI : goal.returns-else-who-le-MOST_DCI
returns-else-who-le-MOST_DCI c =
    let a = c.args in grind (arith, common_steps) ∙ tested a.shape a.who (omega arith) (omega arith)

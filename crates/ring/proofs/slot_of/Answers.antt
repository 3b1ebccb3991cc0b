-- `ring::slot_of` meets its contract: at each return the tests decide whether the address is a slot. Assumes nothing.
use native.Mathlib.Omega.{arith}
use Rattle.ring.proofs.SlotLaws.{inside, outside}
use Rattle.ring.proofs.slot_of.Goals as goal

pub returns-then-address-base : goal.returns-then-address-base
returns-then-address-base c = let a = c.args in outside a.base a.slots a.address (λ ok. omega arith)

pub returns-then-offset-ne0 : goal.returns-then-offset-ne0
returns-then-offset-ne0 c = let a = c.args in outside a.base a.slots a.address (λ ok. omega arith)

pub returns-then-slots-at : goal.returns-then-slots-at
returns-then-slots-at c = let a = c.args in outside a.base a.slots a.address (λ ok. omega arith)

pub returns : goal.returns
returns c = let a = c.args in inside a.base a.slots a.address (omega arith)

-- `store_one` meets its contract, by what the next store is. Assumes nothing.
use mathlib.Core.Path.{sym, ◌∙◌, ap}
use Prim.Native.Nat.{ℕ}
use mathlib.Core.List.{List}
use native.Mathlib.Omega.{arith}
use Rattle.checks.specs.Step.{named}
use Rattle.checks.specs.declared.Next.{Next}
use Rattle.std.proofs.Common.{Some}
use Rattle.dock.specs.RowOne as row
use Rattle.checks.proofs.Laws.{count_most, trb_left}
use Rattle.dock.specs.RowOne.{the_first}
use Rattle.dock.proofs.StoreNextLaws.{because}
use Rattle.dock.specs.declared.After.{After}
use Rattle.dock.specs.declared.Stored.{Stored}
use Rattle.storing.specs.Stored.{stored_by}
use Rattle.storing.proofs.StoreLaws.{first_low, first_stored}
use Rattle.storing.proofs.store_one.Goals as goal

-- A store that is left, as the dock names it.
abbrev told : Next → row.Next
told n = named (Some n)

pub packet_at-p-requires : goal.packet_at-p-requires
packet_at-p-requires c =
    let v = c.record_at-v.result in
    let left = trb_left c.args.e v (sym c.next_of.ensures ∙ ap named c.in-Some-Trb.is ∙ ap told c.in-Some-Trb.field-0-is) in
    omega (arith, count_most v)

pub store_trb-requires : goal.store_trb-requires
store_trb-requires c = let k = c.requires in omega arith

pub store_first-requires : goal.store_first-requires
store_first-requires c =
    let a = c.args in
    let v = c.record_at-v.result in
    let next = sym c.next_of.ensures ∙ ap named c.in-Some-First.is ∙ ap told c.in-Some-First.field-0-is in
    let k = c.requires in
    let low = first_low a.e a.records.now v c.record_at-v.ensures (because a.e v the_first next).1 k.0.place in
    omega arith

pub returns-in-Some-First : goal.returns-in-Some-First
unfolding stored_by
returns-in-Some-First c =
    let a = c.args in
    let v = c.record_at-v.result in
    let next = sym c.next_of.ensures ∙ ap named c.in-Some-First.is ∙ ap told c.in-Some-First.field-0-is in
    simp (← c.record_at-v.ensures, next)
    (ap (λ (x : After Stored × List ℕ). (x.0, x.1, a.finished.now)) c.store_first.ensures
    ∙ first_stored a.e v a.ring.now a.finished.now a.packets.now (because a.e v the_first next).1)

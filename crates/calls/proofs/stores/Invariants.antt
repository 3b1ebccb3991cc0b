-- `stores` meets its contract. The loop's invariant: the stores that are left, from the endpoint and the tables as they stand, are those that were to be made. Assumes nothing.
use Rattle.std.proofs.Common.{◌≡◌, ◌-◌}
use Rattle.page.specs.Lent.{shown, loan}
use Rattle.calls.specs.Calls.{stores}
use Rattle.calls.proofs.stores.Given as goal

abbrev pub invariant-loop : goal.invariant-loop
invariant-loop l =
    (stores (l.most - l.counter) l.next l.ring l.finished l.records l.packets (shown l.page)
    ≡ stores l.most l.initial.next l.initial.ring l.initial.finished l.records l.packets (shown l.initial.page))
    × (loan l.page ≡ loan l.initial.page)

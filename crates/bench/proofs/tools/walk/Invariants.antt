-- `walk` meets its contract. The loop's invariant: the steps that are left, from where the controller stands, are those that were to be taken. Assumes nothing.
use Rattle.std.proofs.Common.{◌≡◌, ◌-◌}
use Rattle.page.specs.Lent.{shown, loan}
use Rattle.bench.specs.Walk.{walk}
use Rattle.bench.proofs.tools.walk.Given as goal

abbrev pub invariant-loop : goal.invariant-loop
invariant-loop l =
    (walk (l.most - l.counter) l.ring l.stands (shown l.page) ≡ walk l.most l.ring l.initial.stands (shown l.initial.page))
    × (loan l.page ≡ loan l.initial.page)

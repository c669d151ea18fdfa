use Rattle.std.proofs.Common.{◌≡◌, ◌++◌, map, take}
use Rattle.sharing.proofs.line.push_shares.Given as goal

abbrev pub invariant-loop-to : goal.invariant-loop-to
invariant-loop-to l =
    l.shifts.items ≡ l.initial.shifts.items
    ++ map (λ to. record { name = l.name; term = l.term; to = to; amount = l.amount }) (take l.to-index l.to-items)

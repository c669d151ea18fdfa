use Rattle.std.proofs.Common.{◌≡◌, ◌++◌, map}
use Rattle.audit.proofs.TotalsMade.{total_of}
use Rattle.audit.proofs.tally.Tally.into_totals.Given as goal

abbrev pub invariant-loop-name : goal.invariant-loop-name
invariant-loop-name l =
    l.totals.items ++ map (total_of l.fn.self) l.name-iterator ≡ map (total_of l.fn.self)
    l.fn.self.counts.counts.entries

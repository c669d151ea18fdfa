use Rattle.std.proofs.Common.{◌≡◌}
use Rattle.std.specs.List.{flat_map, range_with_len}
use Rattle.sharing.specs.Spreads.{term_dealt}
use Rattle.sharing.proofs.dealing.spread.Given as goal

abbrev pub invariant-loop-term : goal.invariant-loop-term
invariant-loop-term g l =
    l.shifts.items ≡ flat_map (term_dealt (g.R.Replica.state l.replica) l.name l.node l.nodes) (range_with_len 0 l.term)

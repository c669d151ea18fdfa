use Rattle.std.proofs.Common.{◌≡◌, get_or, pos}
use Rattle.counters.proofs.balances.known_among.Given as goal

abbrev pub invariant-loop-place : goal.invariant-loop-place
invariant-loop-place l = get_or l.balances l.known.place (pos 0) ≡ l.known.balance

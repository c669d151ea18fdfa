use Rattle.lattice_laws.proofs.NumberJoins.{RaisedBelow}
use Rattle.lattice_laws.proofs.numbers.raise_each.Given as goal

abbrev pub invariant-loop-place : goal.invariant-loop-place
invariant-loop-place l = RaisedBelow l.initial.numbers l.others l.numbers l.place

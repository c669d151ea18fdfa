use Rattle.std.proofs.Common.{◌≡◌, max, drop}
use Rattle.op_set.specs.Counts.{number_of}
use Rattle.op_set.proofs.point.number_of.Given as goal

abbrev pub invariant-loop-count : goal.invariant-loop-count
invariant-loop-count l = max l.number (number_of (drop l.count-index l.counts) l.counted) ≡ number_of l.counts l.counted

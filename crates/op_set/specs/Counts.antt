-- What the plain replica holds of one name.
use Rattle.std.specs.Prelude.{ℕ, ◌+◌, max, List, [], ◌∷◌, if◌then◌else◌, option_map}
use Rattle.stamp_register.specs.Keys.{key_value}
use Rattle.operations.specs.declared.counted.Counted.{Counted}
use Rattle.operations.specs.declared.counted.Counted.TheVariants.{Hits, Execs, Shifts}
use Rattle.operations.specs.declared.counted.Count.{Count}
use Rattle.replica_state.specs.Points.{Held}
use Rattle.operations.specs.Counts.{same_counted}
use Rattle.op_set.specs.declared.point.Point.{Point}

-- a number above those of its nodes
abbrev pub node_bound : Counted → ℕ
node_bound (Hits node) = node + 1
node_bound (Execs term node) = node + 1
node_bound (Shifts term from to) = max from to + 1

-- the greatest number of what is counted so, 0 where there is none
abbrev pub number_of : List Count → Counted → ℕ
number_of [] counted = 0
number_of (c ∷ cs) counted = max (if same_counted c.counted counted then c.number else 0) (number_of cs counted)

unfoldable pub held_of : Point → Held
held_of p = record { key = option_map key_value p.key; number = number_of p.counts.items }

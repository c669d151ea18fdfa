-- What the plain replica shows.
use Rattle.std.specs.Prelude.{ℕ, List, Option, Some, None, option_map}
use Rattle.std.specs.Map.{lookup, keys_of}
use Rattle.std.specs.BTreeMap.{is_at}
use Rattle.std.specs.Ordering.{nat_cmp}
use Rattle.std.specs.Cmp.Lexicographic.{slice_cmp}
use Rattle.stamp_register.specs.Keys.{KeyValue, key_value}
use Rattle.operations.specs.declared.counted.Counted.{Counted}
use Rattle.operations.specs.declared.counted.Counted.TheVariants.{Hits, Execs, Shifts}
use Rattle.replica_state.specs.States.{State}
use Rattle.op_set.specs.declared.point.Point.{Point}
use Rattle.op_set.specs.Counts.{number_of}

-- what is held of one name, if anything is
abbrev pub key_at : Option Point → Option KeyValue
key_at None = None
key_at (Some p) = option_map key_value p.key

abbrev pub number_at : Option Point → Counted → ℕ
number_at None counted = 0
number_at (Some p) counted = number_of p.counts.items counted

abbrev pub point_at : List (List ℕ × Point) → List ℕ → Option Point
point_at points name = lookup (is_at (slice_cmp nat_cmp name)) points

abbrev pub shown_by : List (List ℕ) → (List ℕ → Option Point) → State
shown_by names at =
    record {
      names = names;
      key = λ name. key_at (at name);
      hits = λ name node. number_at (at name) (Hits node);
      execs = λ name term node. number_at (at name) (Execs term node);
      shifts = λ name term from to. number_at (at name) (Shifts term from to);
    }

unfoldable pub shown : List (List ℕ × Point) → State
shown points = shown_by (keys_of points) (point_at points)

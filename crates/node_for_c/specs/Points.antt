-- Numbers of points.
use Rattle.std.specs.Prelude.{ℕ, List, Option}
use Rattle.std.specs.Map.{lookup}
use Rattle.std.specs.BTreeMap.{is_at}
use Rattle.std.specs.Ordering.{nat_cmp}
use Rattle.std.specs.Cmp.Lexicographic.{slice_cmp}

-- the number of a name among the entries of a map
abbrev pub number_in : List (List ℕ × ℕ) → List ℕ → Option ℕ
number_in entries name = lookup (is_at (slice_cmp nat_cmp name)) entries

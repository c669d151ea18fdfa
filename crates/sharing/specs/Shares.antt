-- Which shifts a node makes in a round, by what it knows, and what it remembers then.
use Rattle.std.specs.Prelude.{ℕ, ◌+◌, ◌-◌, ◌/◌, ◌^◌, min, max, nat_lt, ◌==◌, ◌&&◌, not, Bool, if◌then◌else◌, List, [], length, map, take, flat_map, Option, ℤ, pos}
use Rattle.std.specs.Int.{int_gap}
use Rattle.std.specs.List.{filter, fold, insert, position_or_len, range_with_len}
use Rattle.actions.specs.Limits.{max_terms}
use Rattle.replica_state.specs.States.{State, rights_of}
use Rattle.sharing.specs.declared.shift.Shift.{Shift}
use Rattle.sharing.specs.Memory.{Recalled, patience, recall, seen, still_before}

-- a node has passed a point since the last round
abbrev pub has_passed : State → List ℕ → Option Recalled → ℕ → Bool
has_passed v name recalled node = nat_lt (seen recalled node) (v.hits name node)

-- the others that have
abbrev pub passers : State → List ℕ → Option Recalled → ℕ → ℕ → List ℕ
passers v name recalled node nodes =
    filter (λ other. not (other == node) && has_passed v name recalled other) (range_with_len 0 nodes)

-- for how many rounds on end the node itself hasn't
abbrev pub still_now : State → List ℕ → Option Recalled → ℕ → ℕ
still_now v name recalled node =
    if has_passed v name recalled node then 0 else min patience (still_before recalled + 1)

-- who passed lately keeps one right
abbrev pub kept : ℕ → ℕ
kept still = if nat_lt still patience then 1 else 0

-- the rights that a node can spare: those beyond the one that it keeps, and no more than one call moves
abbrev pub spare_of : ℤ → ℕ → ℕ
spare_of rights still = min (int_gap (pos (kept still)) rights) (2 ^ 64 - 1)

-- of those that passed since the last round who waits: has no right
abbrev pub waiting : State → List ℕ → ℕ → List ℕ → List ℕ
waiting v name term others = filter (λ other. int_gap (pos 0) (rights_of v name term other) == 0) others

-- a node takes its place before the first that executed the term more often
abbrev pub placed : (ℕ → ℕ) → List ℕ → ℕ → List ℕ
placed executions line node =
    insert line (position_or_len (λ other. nat_lt (executions node) (executions other)) line) node

-- those that wait, by their executions and then by their numbers
abbrev pub line_of : (ℕ → ℕ) → List ℕ → List ℕ
line_of executions nodes = fold (placed executions) [] nodes

-- what each of the first in the line gets: half of what is to spare is divided among all that wait, and
-- nobody gets less than one
abbrev pub share_of : ℕ → ℕ → ℕ
share_of spare waiting = max 1 (spare / 2 / waiting)

abbrev pub shares_in : List ℕ → ℕ → ℕ → List ℕ → List Shift
shares_in name term spare line =
    map (λ to. record { name = name; term = term; to = to; amount = share_of spare (length line) }) (take spare line)

-- the shifts of a term, where the node has been still for so long and these others passed. A term that
-- isn't counted has no rights, and so no shifts
unfoldable pub term_shifts : State → List ℕ → ℕ → ℕ → List ℕ → ℕ → List Shift
term_shifts v name node still others term =
    shares_in name term (spare_of (rights_of v name term node) still)
    (line_of (v.execs name term) (waiting v name term others))

-- those of a point of which this is remembered, and of all points
unfoldable pub point_shifts : State → ℕ → ℕ → Option Recalled → List ℕ → List Shift
point_shifts v node nodes recalled name =
    flat_map (term_shifts v name node (still_now v name recalled node) (passers v name recalled node nodes))
    (range_with_len 0 max_terms)

unfoldable pub shifts_of : State → ℕ → ℕ → List Recalled → List Shift
shifts_of v node nodes memory = flat_map (λ name. point_shifts v node nodes (recall memory name) name) v.names

-- what is remembered of a point after the round, and of all points
abbrev pub recalled_after : State → ℕ → ℕ → Option Recalled → List ℕ → Recalled
recalled_after v node nodes recalled name =
    record {
      name = name;
      hits = map (v.hits name) (range_with_len 0 nodes);
      still = still_now v name recalled node;
    }

unfoldable pub memory_after : State → ℕ → ℕ → List Recalled → List Recalled
memory_after v node nodes memory = map (λ name. recalled_after v node nodes (recall memory name) name) v.names

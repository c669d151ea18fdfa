-- The equal shares of a node's rights to a point, and the shifts that deal them out.
use Rattle.std.specs.Prelude.{◌≡◌, ◌<◌, sum_by, ℕ, ◌+◌, ◌/◌, ◌%◌, ◌==◌, ◌||◌, nat_lt, if◌then◌else◌, List, [], ◌∷◌, flat_map}
use Rattle.std.specs.List.{range_with_len}
use Rattle.actions.specs.Limits.{max_terms}
use Rattle.replica_state.specs.States.{State, rights_of}
use Rattle.sharing.specs.declared.shift.Shift.{Shift}
use Rattle.sharing.specs.Memory.{patience}
use Rattle.sharing.specs.Shares.{spare_of}

-- the share of who comes so many places behind the node that deals: all get as many, and the first ones one more each
-- where some are left over, so that all are dealt
abbrev pub dealt : ℕ → ℕ → ℕ → ℕ
dealt rights nodes place = if nat_lt place (rights % nodes) then rights / nodes + 1 else rights / nodes

-- who comes so many places behind a node: behind the last node comes the first
abbrev pub behind : ℕ → ℕ → ℕ → ℕ
behind node nodes place = (node + place) % nodes

-- the shift of a share; none to the node itself, which keeps its own, and none of a share of 0
abbrev pub shift_behind : List ℕ → ℕ → ℕ → ℕ → ℕ → ℕ → List Shift
shift_behind name term rights node nodes place =
    if place == 0 || dealt rights nodes place == 0 then []
    else record {
      name = name;
      term = term;
      to = behind node nodes place;
      amount = dealt rights nodes place;
    } ∷ []

-- those of a term: all that the node has is dealt, but no more than one call moves
unfoldable pub term_dealt : State → List ℕ → ℕ → ℕ → ℕ → List Shift
term_dealt v name node nodes term =
    flat_map (shift_behind name term (spare_of (rights_of v name term node) patience) node nodes)
    (range_with_len 0 nodes)

-- those of a point. A term that isn't counted has no rights, and so no shifts
unfoldable pub spread_of : State → ℕ → ℕ → List ℕ → List Shift
spread_of v node nodes name = flat_map (term_dealt v name node nodes) (range_with_len 0 max_terms)

-- the shares of all nodes together are what is dealt
abbrev pub DealsAll : Type 0
DealsAll = (rights nodes : ℕ) → 0 < nodes → sum_by (dealt rights nodes) (range_with_len 0 nodes) ≡ rights

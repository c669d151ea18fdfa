-- What a report tells of a state: a row of each point that has a key, in byte order of the names.
use Rattle.std.specs.Prelude.{ℕ, ℤ, List, Option, map, option_map}
use Rattle.std.specs.List.{filter_map, range_with_len}
use Rattle.actions.specs.Limits.{max_terms}
use Rattle.stamp_register.specs.Keys.{KeyValue, stamp_of}
use Rattle.stamp_register.specs.declared.key.Stamp.{Stamp}
use Rattle.operations.specs.Operations.{count_of}
use Rattle.replica_state.specs.States.{State, total_hits, granted_of, rights_of, spent_of}

-- a counted term: its number, its count, what all nodes granted themselves beyond it, how often it
-- ran at all nodes, and the rights that each node has left
pub record TermRow : Type 0 where
  pub term : ℕ
  pub count : ℕ
  pub granted : ℕ
  pub spent : ℕ
  pub rights : List (ℕ × ℤ)

-- a point: its name, its stamp, the canonical text that it is set to or none where it was removed,
-- the hits at each node, those at all nodes, and its counted terms
pub record PointRow : Type 0 where
  pub name : List ℕ
  pub stamp : Stamp
  pub actions : Option (List ℕ)
  pub hits : List (ℕ × ℕ)
  pub total : ℕ
  pub terms : List TermRow

-- each of the first nodes, from 0, with what it has
abbrev pub by_node : {A : Type 0} → ℕ → (ℕ → A) → List (ℕ × A)
by_node nodes has = map (λ node. (node, has node)) (range_with_len 0 nodes)

abbrev pub counted_row : State → ℕ → List ℕ → ℕ → ℕ → TermRow
counted_row v nodes name term count =
    record {
      term = term;
      count = count;
      granted = granted_of v name term;
      spent = spent_of v name term;
      rights = by_node nodes (rights_of v name term);
    }

-- a term of a key, if the key counts it
abbrev pub term_row : State → ℕ → List ℕ → KeyValue → ℕ → Option TermRow
term_row v nodes name key term = option_map (counted_row v nodes name term) (count_of key term)

abbrev pub term_rows : State → ℕ → List ℕ → KeyValue → List TermRow
term_rows v nodes name key = filter_map (term_row v nodes name key) (range_with_len 0 max_terms)

abbrev pub keyed_row : State → ℕ → List ℕ → KeyValue → PointRow
keyed_row v nodes name key =
    record {
      name = name;
      stamp = stamp_of key;
      actions = key.body;
      hits = by_node nodes (v.hits name);
      total = total_hits v name;
      terms = term_rows v nodes name key;
    }

-- a point, if it has a key
abbrev pub point_row : State → ℕ → List ℕ → Option PointRow
point_row v nodes name = option_map (keyed_row v nodes name) (v.key name)

abbrev pub point_rows : State → ℕ → List PointRow
point_rows v nodes = filter_map (point_row v nodes) v.names

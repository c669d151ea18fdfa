-- The state of a replica: settings, hits, executions, and shifted and granted rights, name by name.
use Rattle.std.specs.Prelude.{ℕ, ◌+◌, ◌==◌, ◌&&◌, ◌↔◌, Bool, false, IsTrue, List, [], ◌∷◌, Option, Some, None, option_map, slice_index_or, if◌then◌else◌, ℤ, pos, ◌≤ℤ◌}
use Rattle.std.specs.Option.{option_map_or}
use Rattle.std.specs.Str.{bytes_eq}
use Rattle.std.specs.Ordering.{nat_cmp, match_ordering}
use Rattle.std.specs.Cmp.Lexicographic.{slice_cmp}
use Rattle.counters.specs.Sums.{node_numbers, sum_below}
use Rattle.counters.specs.Budgets.{Budget, rights, total_spent}
use Rattle.stamp_register.specs.Keys.{KeyValue}
use Rattle.operations.specs.Operations.{count_of}

-- the names that are held, in byte order and each once; of each name its key or none, the hits of
-- each node, and of that key the executions and the shifts, where what a node shifted to itself is
-- what it granted
pub record State : Type 0 where
  pub names : List (List ℕ)
  pub key : List ℕ → Option KeyValue
  pub hits : List ℕ → ℕ → ℕ
  pub execs : List ℕ → ℕ → ℕ → ℕ
  pub shifts : List ℕ → ℕ → ℕ → ℕ → ℕ

-- a name more, in its place
abbrev pub with_name : List ℕ → List (List ℕ) → List (List ℕ)
with_name name [] = name ∷ []
with_name name (n ∷ ns) = match_ordering (slice_cmp nat_cmp name n) (name ∷ n ∷ ns) (n ∷ ns) (n ∷ with_name name ns)

-- the state with another number in one cell
unfoldable pub with_hits : List ℕ → ℕ → ℕ → State → State
with_hits name node number v = record v { hits = λ n i. if bytes_eq name n && (node == i) then number else v.hits n i }

unfoldable pub with_execs : List ℕ → ℕ → ℕ → ℕ → State → State
with_execs name term node number v =
    record v { execs = λ n k i. if bytes_eq name n && ((term == k) && (node == i)) then number else v.execs n k i }

unfoldable pub with_shifts : List ℕ → ℕ → ℕ → ℕ → ℕ → State → State
with_shifts name term from to number v =
    record v {
      shifts = λ n k i j.
          if bytes_eq name n && ((term == k) && ((from == i) && (to == j))) then number else v.shifts n k i j;
    }

-- the state with a new key of a name, of which nothing was executed or shifted yet; hits go on
unfoldable pub with_key : List ℕ → KeyValue → State → State
with_key name key v =
    record {
      names = with_name name v.names;
      key = λ n. if bytes_eq name n then Some key else v.key n;
      hits = v.hits;
      execs = λ n k i. if bytes_eq name n then 0 else v.execs n k i;
      shifts = λ n k i j. if bytes_eq name n then 0 else v.shifts n k i j;
    }

-- the state after a pass at a node: one hit more and, where a counted term was triggered, one
-- execution more
abbrev pub with_spend : List ℕ → ℕ → Option ℕ → State → State
with_spend name node None v = v
with_spend name node (Some term) v = with_execs name term node (v.execs name term node + 1) v

abbrev pub with_pass : List ℕ → ℕ → Option ℕ → State → State
with_pass name node spent v = with_spend name node spent (with_hits name node (v.hits name node + 1) v)

-- the hits of a name at all nodes
abbrev pub total_hits : State → List ℕ → ℕ
total_hits v name = sum_below node_numbers (v.hits name)

-- what a node granted itself beyond the count of a term
abbrev pub granted_in : State → List ℕ → ℕ → ℕ → ℕ
granted_in v name term node = v.shifts name term node node

-- what all nodes granted themselves beyond it
abbrev pub granted_of : State → List ℕ → ℕ → ℕ
granted_of v name term = sum_below node_numbers (granted_in v name term)

-- the budget of a term in a key of the name
abbrev pub budget : State → List ℕ → ℕ → ℕ → ℕ → Budget
budget v name term setter count =
    record {
      setter = setter;
      count = count;
      shifted = λ from to. v.shifts name term from to;
      spent = λ node. v.execs name term node;
    }

-- the budget of a term, if the name has a key that counts it
abbrev pub budget_under : State → List ℕ → ℕ → Option KeyValue → Option Budget
budget_under v name term None = None
budget_under v name term (Some key) = option_map (λ count. budget v name term key.node count) (count_of key term)

abbrev pub budget_of : State → List ℕ → ℕ → Option Budget
budget_of v name term = budget_under v name term (v.key name)

-- the rights of a node and what all nodes spent, 0 where there is no budget
abbrev pub rights_of : State → List ℕ → ℕ → ℕ → ℤ
rights_of v name term node = option_map_or (λ b. rights b node) (budget_of v name term) (pos 0)

abbrev pub spent_of : State → List ℕ → ℕ → ℕ
spent_of v name term = option_map_or total_spent (budget_of v name term) 0

-- those terms are marked that a node has a right to execute, where it has these rights of each
abbrev pub MarksRights : (ℕ → ℤ) → List Bool → Type 0
MarksRights rights marks = (term : ℕ) → IsTrue (slice_index_or marks term false) ↔ (pos 1 ≤ℤ rights term)

-- The status of a node as JSON: what it is, how many calls it accepted, and of each counted term what each node granted
-- itself, spent and has left; and, where the other nodes are shown, what was received from them. Numbers are texts of
-- decimal digits, as in a report.
use Rattle.std.specs.Prelude.{ℕ, ℤ, List, Option, map, option_map, codes}
use Rattle.std.specs.List.{filter_map, range_with_len}
use Rattle.actions.specs.Limits.{max_terms}
use Rattle.serde_json.specs.Data.{Data, string, object, member, no_members}
use Rattle.serde_json.specs.Written.{compact_text}
use Rattle.stamp_register.specs.Keys.{KeyValue, stamp_of, stamp_text}
use Rattle.stamp_register.specs.declared.key.Stamp.{Stamp}
use Rattle.operations.specs.Operations.{count_of}
use Rattle.replica_state.specs.States.{State, granted_in, rights_of}
use Rattle.report_text.specs.Report.{by_node}
use Rattle.report_text.specs.Json.{hits_data, list_data, rights_data}
use Rattle.report_text.specs.Peers.{number_data, peers_member}
use Rattle.report_text.specs.declared.peer_rows.PeerRow.{PeerRow}
use Rattle.report_text.specs.declared.node_json.NodeHead.{NodeHead}

-- ---- the budgets that a node knows

-- a counted term: its number, its count, and what each node granted itself beyond it, spent, and has left
pub record BudgetRow : Type 0 where
  pub term : ℕ
  pub count : ℕ
  pub granted : List (ℕ × ℕ)
  pub spent : List (ℕ × ℕ)
  pub rights : List (ℕ × ℤ)

-- a point with its counted terms
pub record BudgetsRow : Type 0 where
  pub name : List ℕ
  pub stamp : Stamp
  pub terms : List BudgetRow

abbrev pub budget_row : State → ℕ → List ℕ → ℕ → ℕ → BudgetRow
budget_row v nodes name term count =
    record {
      term = term;
      count = count;
      granted = by_node nodes (granted_in v name term);
      spent = by_node nodes (v.execs name term);
      rights = by_node nodes (rights_of v name term);
    }

-- a term of a key, if the key counts it
abbrev pub counted_budget : State → ℕ → List ℕ → KeyValue → ℕ → Option BudgetRow
counted_budget v nodes name key term = option_map (budget_row v nodes name term) (count_of key term)

abbrev pub budget_rows : State → ℕ → List ℕ → KeyValue → List BudgetRow
budget_rows v nodes name key = filter_map (counted_budget v nodes name key) (range_with_len 0 max_terms)

abbrev pub keyed_budgets : State → ℕ → List ℕ → KeyValue → BudgetsRow
keyed_budgets v nodes name key =
    record { name = name; stamp = stamp_of key; terms = budget_rows v nodes name key }

-- a point, if it has a key
abbrev pub point_budgets : State → ℕ → List ℕ → Option BudgetsRow
point_budgets v nodes name = option_map (keyed_budgets v nodes name) (v.key name)

-- each point that has a key, in byte order of the names
abbrev pub all_budgets : State → ℕ → List BudgetsRow
all_budgets v nodes = filter_map (point_budgets v nodes) v.names

-- ---- as JSON

abbrev pub budget_data : BudgetRow → Data
budget_data row =
    object (member (codes "count") (number_data row.count)
    (member (codes "granted") (hits_data row.granted)
    (member (codes "rights") (rights_data row.rights)
    (member (codes "spent") (hits_data row.spent)
    (member (codes "term") (number_data row.term) no_members)))))

abbrev pub budgets_data : BudgetsRow → Data
budgets_data row =
    object (member (codes "name") (string row.name)
    (member (codes "stamp") (string (stamp_text row.stamp))
    (member (codes "terms") (list_data (map budget_data row.terms)) no_members)))

unfoldable pub points_data : State → ℕ → Data
points_data v nodes = list_data (map budgets_data (all_budgets v nodes))

-- the version of the programs and the libraries that are made of this code
abbrev pub version_text : List ℕ
version_text = codes "0.2.0"

abbrev pub node_data : NodeHead → State → Data
node_data head v =
    object (member (codes "calls") (number_data head.calls)
    (member (codes "cap") (number_data head.cap)
    (member (codes "nodes") (number_data head.nodes)
    (member (codes "number") (number_data head.number)
    (member (codes "points") (points_data v head.nodes)
    (member (codes "version") (string version_text) no_members))))))

abbrev pub status_data : NodeHead → State → Option (List PeerRow) → Data
status_data head v peers = object (member (codes "node") (node_data head v) (peers_member peers))

abbrev pub status_json_text : NodeHead → State → Option (List PeerRow) → List ℕ
status_json_text head v peers = compact_text (status_data head v peers)

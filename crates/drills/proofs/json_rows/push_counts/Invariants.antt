use Rattle.std.proofs.Common.{◌≡◌, ◌++◌, map, take}
use Rattle.serde_json.specs.View.{view}
use Rattle.drills.specs.Rows.{count_data}
use Rattle.drills.proofs.json_rows.push_counts.Given as goal

abbrev pub invariant-loop-count : goal.invariant-loop-count
invariant-loop-count l =
    map view l.row.items ≡ map view l.initial.row.items ++ map count_data (take l.count-index l.counts)

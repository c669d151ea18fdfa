-- The report as JSON: an array with an object of each point. Numbers are texts of decimal digits,
-- since they can be too great for the numbers of most readers.
use Rattle.std.specs.Prelude.{ℕ, ℤ, List, ◌==◌, if◌then◌else◌, Option, map, codes, decimal}
use Rattle.std.specs.Fmt.{signed_decimal}
use Rattle.std.specs.Option.{option_map_or}
use Rattle.serde_json.specs.Data.{Data, string, null, array, object, Members, member, no_members}
use Rattle.serde_json.specs.View.{items_of}
use Rattle.serde_json.specs.Written.{compact_text}
use Rattle.stamp_register.specs.Keys.{stamp_text}
use Rattle.replica_state.specs.States.{State}
use Rattle.report_text.specs.Report.{PointRow, TermRow, point_rows}

abbrev pub list_data : List Data → Data
list_data values = array (items_of values)

abbrev pub hits_data : List (ℕ × ℕ) → Data
hits_data hits = list_data (map (λ at. string (decimal at.1)) hits)

abbrev pub rights_data : List (ℕ × ℤ) → Data
rights_data rights = list_data (map (λ at. string (signed_decimal at.1)) rights)

-- nothing is said of grants where there are none
abbrev pub with_granted : ℕ → Members → Members
with_granted granted members =
    if granted == 0 then members else member (codes "granted") (string (decimal granted)) members

abbrev pub term_data : TermRow → Data
term_data row =
    object (member (codes "count") (string (decimal row.count))
    (with_granted row.granted
    (member (codes "rights") (rights_data row.rights)
    (member (codes "spent") (string (decimal row.spent))
    (member (codes "term") (string (decimal row.term)) no_members)))))

abbrev pub actions_data : Option (List ℕ) → Data
actions_data actions = option_map_or string actions null

abbrev pub point_data : PointRow → Data
point_data row =
    object (member (codes "actions") (actions_data row.actions)
    (member (codes "hits") (hits_data row.hits)
    (member (codes "name") (string row.name)
    (member (codes "stamp") (string (stamp_text row.stamp))
    (member (codes "terms") (list_data (map term_data row.terms)) no_members)))))

unfoldable pub report_data : State → ℕ → Data
report_data v nodes = list_data (map point_data (point_rows v nodes))

abbrev pub report_json_text : State → ℕ → List ℕ
report_json_text v nodes = compact_text (report_data v nodes)

-- The report as lines: a line of each point, one of its hits, and one of each counted term.
use Rattle.std.specs.Prelude.{ℕ, ℤ, List, Option, [], ◌++◌, ◌==◌, if◌then◌else◌, codes, decimal, flat_map, unwrap_or}
use Rattle.std.specs.Fmt.{signed_decimal}
use Rattle.stamp_register.specs.Keys.{stamp_text}
use Rattle.stamp_register.specs.declared.key.Stamp.{Stamp}
use Rattle.replica_state.specs.States.{State}
use Rattle.report_text.specs.Report.{PointRow, TermRow, point_rows}

-- a node and its number
abbrev pub node_text : ℕ → List ℕ → List ℕ
node_text node number = codes " " ++ decimal node ++ codes "=" ++ number

abbrev pub hits_text : List (ℕ × ℕ) → List ℕ
hits_text hits = flat_map (λ at. node_text at.0 (decimal at.1)) hits

abbrev pub rights_text : List (ℕ × ℤ) → List ℕ
rights_text rights = flat_map (λ at. node_text at.0 (signed_decimal at.1)) rights

abbrev pub point_line : List ℕ → Stamp → Option (List ℕ) → List ℕ
point_line name stamp actions =
    codes "point " ++ name ++ codes " " ++ stamp_text stamp ++ codes " "
    ++ unwrap_or actions (codes "removed") ++ codes "\n"

abbrev pub hits_line : List (ℕ × ℕ) → ℕ → List ℕ
hits_line hits total = codes "hits" ++ hits_text hits ++ codes " total=" ++ decimal total ++ codes "\n"

-- nothing is said of grants where there are none
abbrev pub granted_text : ℕ → List ℕ
granted_text granted = if granted == 0 then [] else codes " granted=" ++ decimal granted

abbrev pub term_line : TermRow → List ℕ
term_line row =
    codes "term " ++ decimal row.term ++ codes " count=" ++ decimal row.count ++ granted_text row.granted
    ++ codes " spent=" ++ decimal row.spent ++ codes " rights" ++ rights_text row.rights ++ codes "\n"

abbrev pub point_lines : PointRow → List ℕ
point_lines row =
    point_line row.name row.stamp row.actions
    ++ hits_line row.hits row.total ++ flat_map term_line row.terms

unfoldable pub report_lines_text : State → ℕ → List ℕ
report_lines_text v nodes = flat_map point_lines (point_rows v nodes)

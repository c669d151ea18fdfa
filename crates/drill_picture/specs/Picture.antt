-- The text of a picture.
use Rattle.std.specs.Prelude.{◌≡◌, ℕ, zero, suc, ◌+◌, ◌-◌, ◌%◌, ◌==◌, ◌&&◌, List, [], ◌++◌, length, slice_get, find, min, nat_le, if◌then◌else◌, codes, decimal, Option, Some, None}
use Rattle.packed_trace.specs.Packed.{Packed}
use Rattle.drill_picture.specs.declared.place.Place.{Place}
use Rattle.drill_picture.specs.Arrows.{arrows_of}
use Rattle.drill_picture.specs.Bars.{all_bars_below, own_of}
use Rattle.drill_picture.specs.Budgets.{BudgetTold}
use Rattle.drill_picture.specs.Calls.{Traces}
use Rattle.drill_picture.specs.Charts.{charts_end, charts_from}
use Rattle.drill_picture.specs.Escaped.{escaped}
use Rattle.drill_picture.specs.Marks.{arrows_text, at_text, marks_text, use_text}
use Rattle.drill_picture.specs.Placing.{AreAllColumns}
use Rattle.drill_picture.specs.Scale.{ScaleTold, column_x, is_binned, lane_y, lanes_end, scale_of}

-- the node's colour
unfoldable pub colour_text : ℕ → ℕ → List ℕ
colour_text node y =
    (codes "<use href='#n" ++ (decimal (node % 8) ++ codes "'")) ++ at_text 17 y ++ codes "/>"

-- its name
unfoldable pub node_text : ℕ → ℕ → List ℕ
node_text node y = codes "<text" ++ at_text 27 y ++ codes " dy='4'>node " ++ decimal node ++ codes "</text>"

-- these, and its line
unfoldable pub lane_at : ℕ → ℕ → List ℕ
lane_at node y =
    colour_text node y ++ node_text node y
    ++ (codes "<path class='lane' d='M76 " ++ (decimal y ++ codes "H888'/>\n"))

abbrev pub lane_text : ScaleTold → ℕ → List ℕ
lane_text scale node = lane_at node (lane_y scale node)

abbrev pub lanes_below : ScaleTold → ℕ → List ℕ
lanes_below scale zero = []
lanes_below scale (suc node) = lanes_below scale node ++ lane_text scale node

-- each call a mark and each message an arrow, or bars
abbrev pub calls_text : Traces → ScaleTold → List Place → List ℕ
calls_text traces scale places =
    if is_binned scale then all_bars_below traces scale places scale.nodes
    else arrows_text scale (arrows_of traces places) ++ marks_text traces scale places

-- the column behind the last of the places
abbrev pub column_behind : Option Place → ℕ
column_behind None = 0
column_behind (Some place) = min (place.column + 1) 4294967295

-- which call waits, and how many don't stand
unfoldable pub missing_text : ℕ → ℕ → List ℕ
missing_text index missing =
    codes "call " ++ decimal index ++ codes " waits for its message; not placed: " ++ decimal missing ++ codes "</text>\n"

unfoldable pub wait_at : ℕ → ℕ → ℕ → ℕ → List ℕ
wait_at x y index missing =
    use_text (codes "stuck") x y ++ codes "/><text class='no'" ++ at_text x y ++ codes " dx='12' dy='4'>"
    ++ missing_text index missing

abbrev pub wait_text : ScaleTold → ℕ → ℕ → ℕ → ℕ → List ℕ
wait_text scale node column index missing =
    wait_at (column_x scale column) (lane_y scale node) index missing

-- a node's first call that doesn't stand, if there is one, and how many don't
abbrev pub wait_of : ScaleTold → ℕ → List Place → ℕ → List ℕ
wait_of scale node own calls =
    if nat_le calls (length own) then []
    else wait_text scale node (column_behind (slice_get own (length own - 1))) (length own) (calls - length own)

abbrev pub calls_in : Option Packed → ℕ
calls_in None = 0
calls_in (Some trace) = length trace.calls

abbrev pub waits_below : Traces → ScaleTold → List Place → ℕ → List ℕ
waits_below traces scale places zero = []
waits_below traces scale places (suc node) =
    waits_below traces scale places node
    ++ wait_of scale node (own_of node places) (calls_in (slice_get traces node))

abbrev pub wrong_at : ScaleTold → Option Place → List ℕ
wrong_at scale None = []
wrong_at scale (Some place) =
    use_text (codes "wrong") (column_x scale place.column) (lane_y scale place.node) ++ codes "/>\n"

-- the call that a node doesn't reply so, if it is told and stands
abbrev pub wrong_text : ScaleTold → List Place → Option (ℕ × ℕ) → List ℕ
wrong_text scale places None = []
wrong_text scale places (Some at) =
    wrong_at scale (find (λ p. (p.node == at.0) && (p.index == at.1)) places)

unfoldable pub size_text : ℕ → List ℕ
size_text height =
    codes "viewBox='0 0 1000 " ++ decimal height ++ codes "' width='1000' height='" ++ decimal height ++ codes "'"

unfoldable pub head_text : List ℕ → ℕ → List ℕ
head_text shapes height =
    codes "<svg xmlns='http://www.w3.org/2000/svg' " ++ size_text height ++ codes " role='img'>\n" ++ shapes

unfoldable pub counts_text : ℕ → ℕ → ℕ → List ℕ
counts_text nodes calls columns =
    codes "A drill of " ++ decimal nodes ++ codes " nodes: " ++ decimal calls ++ codes " calls in " ++ decimal columns

unfoldable pub heading_text : ℕ → ℕ → ℕ → List ℕ → List ℕ
heading_text nodes calls columns headline =
    codes "<text class='big' x='12' y='25'>" ++ counts_text nodes calls columns
    ++ codes " columns</text>\n<text class='said' x='988' y='25'>" ++ escaped headline ++ codes "</text>\n"

unfoldable pub foot_text : List ℕ → ℕ → List ℕ
foot_text legend top =
    codes "<g transform='translate(0 " ++ decimal top ++ codes ")'>\n" ++ legend ++ codes "</g>\n</svg>\n"

-- from top to bottom, and what is drawn over other signs behind them
abbrev pub body_text : Traces → ScaleTold → List Place → Option (ℕ × ℕ) → List BudgetTold → List ℕ
body_text traces scale places wrong budgets =
    lanes_below scale scale.nodes ++ (calls_text traces scale places
    ++ (waits_below traces scale places scale.nodes ++ (wrong_text scale places wrong
    ++ charts_from traces scale places (lanes_end scale) budgets)))

-- with these shapes and this legend, of the places of so many columns
unfoldable pub picture_of :
    List ℕ → List ℕ → Traces → List ℕ → Option (ℕ × ℕ) → List BudgetTold → ℕ → List Place → List ℕ
picture_of shapes legend traces headline wrong budgets columns places =
    let scale = scale_of (length traces) columns in
    let end = charts_end (lanes_end scale) budgets in
    head_text shapes (end + 76) ++ (heading_text scale.nodes (length places) columns headline
    ++ (body_text traces scale places wrong budgets ++ foot_text legend end))

-- the text is the picture of all columns that there are
pub record IsPicture (shapes legend : List ℕ) (traces : Traces) (headline : List ℕ) (wrong : Option (ℕ × ℕ))
    (budgets : List BudgetTold) (text : List ℕ) : Type 0 where
  pub columns : ℕ
  pub places : List Place
  pub placed : AreAllColumns traces columns places
  pub drawn : text ≡ picture_of shapes legend traces headline wrong budgets columns places

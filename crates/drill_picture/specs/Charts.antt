-- The charts of a picture, as text: where the rights of a counted term are, column by column.
use Rattle.std.specs.Prelude.{ℕ, zero, suc, ◌+◌, ◌-◌, ◌*◌, ◌/◌, ◌%◌, ◌==◌, Bool, List, [], ◌∷◌, ◌++◌, length, max, min, nat_lt, slice_index, if◌then◌else◌, codes, decimal}
use Rattle.std.specs.List.{list_any}
use Rattle.stamp_register.specs.Keys.{stamp_text}
use Rattle.drill_picture.specs.declared.column.Column.{Column}
use Rattle.drill_picture.specs.declared.place.Place.{Place}
use Rattle.drill_picture.specs.Budgets.{BudgetTold}
use Rattle.drill_picture.specs.Calls.{Traces}
use Rattle.drill_picture.specs.Escaped.{escaped}
use Rattle.drill_picture.specs.Marks.{at_text, point_text}
use Rattle.drill_picture.specs.Rights.{RowTold}
use Rattle.drill_picture.specs.Scale.{ScaleTold, bin_x}
use Rattle.drill_picture.specs.Stories.{story_behind}

-- ---- a column: what was spent, and above it of each node what it holds and what is on its way to it

-- the sum of two numbers, or the greatest that there is
abbrev pub sum_upto : ℕ → ℕ → ℕ
sum_upto a b = min (a + b) 18446744073709551615

-- all that lies below a node's rights
abbrev pub below : RowTold → ℕ → ℕ
below row zero = row.spent
below row (suc node) = sum_upto (sum_upto (below row node) (slice_index row.held node)) (slice_index row.way node)

abbrev pub levels_of : Column → List ℕ
levels_of column = column.levels.items

-- the height of each of these above the base
abbrev pub levels_below : RowTold → ℕ → List ℕ
levels_below row zero = row.spent ∷ []
levels_below row (suc node) =
    levels_below row node
    ++ (sum_upto (below row node) (slice_index row.held node) ∷ (below row (suc node) ∷ []))

-- those of each column
abbrev pub columns_below : Traces → ScaleTold → List Place → BudgetTold → ℕ → List (List ℕ)
columns_below traces scale places b zero = []
columns_below traces scale places b (suc bin) =
    columns_below traces scale places b bin
    ++ (levels_below (story_behind traces scale places b (suc bin)).row scale.nodes ∷ [])

-- ---- an area of the chart, which is 96 high

-- how far below the top of the chart so many of the most rights are
abbrev pub drop_of : ℕ → ℕ → ℕ
drop_of most rights = 96 - min (rights * 96 / most) 96

-- from a column on another height
abbrev pub step_text : ℕ → ℕ → ℕ → List ℕ
step_text x last y = if y == last then [] else codes "H" ++ decimal x ++ codes "V" ++ decimal y

abbrev pub edge_from : ScaleTold → ℕ → ℕ → ℕ → ℕ → ℕ → List (List ℕ) → List ℕ
edge_from scale top most level bin last [] = []
edge_from scale top most level bin last (levels ∷ columns) =
    step_text (bin_x scale bin) last (top + drop_of most (slice_index levels level))
    ++ edge_from scale top most level (bin + 1) (top + drop_of most (slice_index levels level)) columns

-- all that lies above a level, column by column: from the middle of each to that of the next
unfoldable pub area_text : ScaleTold → ℕ → ℕ → ℕ → List (List ℕ) → List ℕ
area_text scale top most level columns =
    point_text (bin_x scale 0) top ++ edge_from scale top most level 0 top columns
    ++ (codes "H888V" ++ (decimal top ++ codes "z'/>\n"))

-- there is something above a level and below the next
abbrev pub is_band : ℕ → List (List ℕ) → Bool
is_band level columns = list_any (λ levels. nat_lt (slice_index levels level) (slice_index levels (level + 1))) columns

-- it has the node's colour
unfoldable pub band_at : ScaleTold → ℕ → ℕ → List (List ℕ) → List ℕ → ℕ → ℕ → List ℕ
band_at scale top most columns kind colour level =
    (codes "<path class='" ++ (kind ++ (decimal colour ++ codes "' d='M"))) ++ area_text scale top most level columns

abbrev pub band_text : ScaleTold → ℕ → ℕ → List (List ℕ) → List ℕ → ℕ → ℕ → List ℕ
band_text scale top most columns kind node level =
    if is_band level columns then band_at scale top most columns kind (node % 8) level else []

-- what nodes hold, and what is on its way to them
abbrev pub bands_below : ScaleTold → ℕ → ℕ → List (List ℕ) → ℕ → List ℕ
bands_below scale top most columns zero = []
bands_below scale top most columns (suc node) =
    bands_below scale top most columns node
    ++ (band_text scale top most columns (codes "own") node (2 * node)
    ++ band_text scale top most columns (codes "way") node (2 * node + 1))

-- the ground, which is what was spent
unfoldable pub ground_at : ℕ → ℕ → ℕ → List ℕ
ground_at x top base =
    codes "<path class='spent' d='M" ++ point_text x top
    ++ (codes "V" ++ (decimal base ++ (codes "H888V" ++ (decimal top ++ codes "z'/>\n"))))

abbrev pub ground_text : ScaleTold → ℕ → List ℕ
ground_text scale top = ground_at (bin_x scale 0) top (top + 96)

unfoldable pub areas_text : ScaleTold → ℕ → ℕ → List (List ℕ) → List ℕ
areas_text scale top most columns =
    ground_text scale top ++ bands_below scale top most columns scale.nodes
    ++ codes "<path class='bg' d='M" ++ area_text scale top most (2 * scale.nodes) columns

-- ---- its words

unfoldable pub term_text : List ℕ → ℕ → List ℕ
term_text stamp term = codes " " ++ stamp ++ codes " term " ++ decimal term ++ codes "</text>"

-- which term it is
unfoldable pub budget_line : ℕ → List ℕ → List ℕ → ℕ → List ℕ
budget_line y name stamp term =
    codes "<text class='strong'" ++ at_text 12 y ++ codes ">" ++ escaped name ++ term_text stamp term

abbrev pub all_held : RowTold → ℕ → ℕ
all_held row zero = 0
all_held row (suc node) = sum_upto (all_held row node) (slice_index row.held node)

abbrev pub all_on_their_way : RowTold → ℕ → ℕ
all_on_their_way row zero = 0
all_on_their_way row (suc node) = sum_upto (all_on_their_way row node) (slice_index row.way node)

unfoldable pub rights_text : ℕ → ℕ → List ℕ
rights_text counted granted = decimal counted ++ codes " counted + " ++ decimal granted ++ codes " granted = "

unfoldable pub places_text : ℕ → ℕ → ℕ → List ℕ
places_text spent held way =
    decimal spent ++ codes " spent + " ++ decimal held ++ codes " held + " ++ decimal way
    ++ codes " in transit</text>\n"

-- what it comes to, as a sum
unfoldable pub sum_line : ℕ → ℕ → ℕ → ℕ → ℕ → ℕ → List ℕ
sum_line y counted granted spent held way =
    codes "<text class='said'" ++ at_text 988 y ++ codes ">" ++ rights_text counted granted
    ++ places_text spent held way

abbrev pub sums_text : ℕ → BudgetTold → RowTold → ℕ → List ℕ
sums_text y b row nodes =
    budget_line y b.name (stamp_text b.stamp) b.term
    ++ sum_line y (min b.count row.whole) (row.whole - min b.count row.whole) row.spent (all_held row nodes) (all_on_their_way row nodes)

-- how many these are in the end, where a line fits
unfoldable pub label_at : ℕ → ℕ → List ℕ → ℕ → List ℕ
label_at y amount words node =
    codes "<text" ++ at_text 894 y ++ codes ">" ++ decimal amount ++ words ++ decimal node ++ codes "</text>\n"

unfoldable pub label_text : ℕ → ℕ → ℕ → ℕ → List ℕ → ℕ → List ℕ
label_text top most low amount words node =
    if nat_lt (drop_of most low) (drop_of most (sum_upto low amount) + 11) then []
    else label_at (top + (drop_of most low + drop_of most (sum_upto low amount)) / 2 + 4) amount words node

abbrev pub labels_below : ℕ → ℕ → RowTold → ℕ → List ℕ
labels_below top most row zero = []
labels_below top most row (suc node) =
    labels_below top most row node
    ++ (label_text top most (below row node) (slice_index row.held node) (codes " node ") node
    ++ label_text top most (sum_upto (below row node) (slice_index row.held node)) (slice_index row.way node)
    (codes " to node ") node)

-- the chart's scale, and a line where the count is
unfoldable pub axis_at : ℕ → ℕ → ℕ → List ℕ
axis_at y most count_y =
    codes "<text class='end'" ++ at_text 70 y ++ (codes ">" ++ decimal most)
    ++ (codes "</text><path class='count' d='M76 " ++ (decimal count_y ++ codes "H888'/>\n"))

abbrev pub axis_text : ℕ → ℕ → ℕ → List ℕ
axis_text top most counted = axis_at (top + 8) most (top + drop_of most counted)

-- ---- all of it

-- a chart whose row of words begins at a top, where this is the row behind the last column
unfoldable pub chart_of : ScaleTold → List (List ℕ) → ℕ → BudgetTold → RowTold → List ℕ
chart_of scale columns top b row =
    sums_text (top + 14) b row scale.nodes
    ++ (areas_text scale (top + 24) (max row.whole 1) columns
    ++ (axis_text (top + 24) (max row.whole 1) (min b.count row.whole)
    ++ labels_below (top + 24) (max row.whole 1) row scale.nodes))

abbrev pub chart_text : Traces → ScaleTold → List Place → ℕ → BudgetTold → List ℕ
chart_text traces scale places top b =
    chart_of scale (columns_below traces scale places b scale.shown) top b
    (story_behind traces scale places b scale.shown).row

abbrev pub charts_from : Traces → ScaleTold → List Place → ℕ → List BudgetTold → List ℕ
charts_from traces scale places top [] = []
charts_from traces scale places top (b ∷ budgets) =
    chart_text traces scale places top b ++ charts_from traces scale places (top + 130) budgets

-- where the charts end, of which each is 130 high
abbrev pub charts_end : ℕ → List BudgetTold → ℕ
charts_end top budgets = top + 130 * length budgets

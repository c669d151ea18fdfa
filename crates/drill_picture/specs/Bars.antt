-- The bars of a picture whose columns hold several calls, as text: of each lane all calls, and those that ran a term.
use Rattle.std.specs.Prelude.{ℕ, zero, suc, ◌==◌, Bool, false, List, [], ◌++◌, if◌then◌else◌, count_by, filter, codes, decimal, Option, Some, None}
use Rattle.node_calls.specs.Told.{Told}
use Rattle.drill_picture.specs.declared.place.Place.{Place}
use Rattle.drill_picture.specs.Calls.{Traces, call_at}
use Rattle.drill_picture.specs.Scale.{ScaleTold, bar_height, bin_of, bin_x, lane_y}
use Rattle.drill_picture.specs.Signs.{is_run, sign_of}

-- the places at a node
abbrev pub own_of : ℕ → List Place → List Place
own_of node places = filter (λ p. p.node == node) places

abbrev pub runs_told : Option Told → Bool
runs_told None = false
runs_told (Some call) = is_run (sign_of call.reply)

-- those whose call ran a term
abbrev pub runs_of : Traces → List Place → List Place
runs_of traces places = filter (λ p. runs_told (call_at traces p.node p.index)) places

-- how many of them a column of the picture holds
abbrev pub count_in : ScaleTold → ℕ → List Place → ℕ
count_in scale bin places = count_by (λ p. bin_of scale p.column == bin) places

unfoldable pub bar_text : ScaleTold → ℕ → ℕ → ℕ → List ℕ
bar_text scale node bin count =
    if count == 0 then []
    else codes "M" ++ decimal (bin_x scale bin) ++ codes " " ++ decimal (lane_y scale node) ++ codes "v-"
    ++ decimal (bar_height scale count)

abbrev pub bars_below : ScaleTold → ℕ → List Place → ℕ → List ℕ
bars_below scale node places zero = []
bars_below scale node places (suc bin) =
    bars_below scale node places bin ++ bar_text scale node bin (count_in scale bin places)

unfoldable pub bars_text : ScaleTold → List ℕ → ℕ → List Place → List ℕ
bars_text scale class node places =
    codes "<path class='" ++ class ++ codes "' d='M0 0" ++ bars_below scale node places scale.shown ++ codes "'/>\n"

-- of one lane
abbrev pub lane_bars : Traces → ScaleTold → List Place → ℕ → List ℕ
lane_bars traces scale places node =
    bars_text scale (codes "calls") node (own_of node places)
    ++ bars_text scale (codes "runs") node (runs_of traces (own_of node places))

abbrev pub all_bars_below : Traces → ScaleTold → List Place → ℕ → List ℕ
all_bars_below traces scale places zero = []
all_bars_below traces scale places (suc node) =
    all_bars_below traces scale places node ++ lane_bars traces scale places node

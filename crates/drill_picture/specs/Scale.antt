-- Where columns and lanes lie, in whole units: a picture is 1000 wide, its columns from 76 to 888.
use Rattle.std.specs.Prelude.{ℕ, ◌+◌, ◌*◌, ◌/◌, Bool, min, nat_lt}
use Rattle.drill_picture.specs.Units.{lane_height, scaled, shown_of, step_of}

-- of how many nodes, how many columns of calls one column of the picture holds, and how many of these it has
pub record ScaleTold : Type 0 where
  pub nodes : ℕ
  pub step : ℕ
  pub shown : ℕ

abbrev pub scale_of : ℕ → ℕ → ScaleTold
scale_of nodes columns = record {
  nodes = nodes;
  step = step_of columns;
  shown = shown_of columns (step_of columns);
}

abbrev pub is_binned : ScaleTold → Bool
is_binned scale = nat_lt 1 scale.step

-- the column of the picture that holds a column of calls, and where its middle is
abbrev pub bin_of : ScaleTold → ℕ → ℕ
bin_of scale column = column / scale.step

abbrev pub bin_x : ScaleTold → ℕ → ℕ
bin_x scale bin = 76 + scaled (2 * bin + 1) 812 (2 * scale.shown)

abbrev pub column_x : ScaleTold → ℕ → ℕ
column_x scale column = bin_x scale (bin_of scale column)

-- where the line of a lane is, and where the last lane ends
abbrev pub lane_y : ScaleTold → ℕ → ℕ
lane_y scale node = 58 + scaled (8 * node + 5) (lane_height scale.nodes) 8

abbrev pub lanes_end : ScaleTold → ℕ
lanes_end scale = 66 + scaled scale.nodes (lane_height scale.nodes) 1

-- how high a bar of so many calls is: half a lane where each column of calls has one
abbrev pub bar_height : ScaleTold → ℕ → ℕ
bar_height scale count = 1 + scaled (min count scale.step) (lane_height scale.nodes) (2 * scale.step)

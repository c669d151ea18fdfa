-- Units of a picture, by numbers alone.
use Rattle.std.specs.Prelude.{ℕ, ◌+◌, ◌-◌, ◌*◌, ◌/◌, max, nat_le, if◌then◌else◌}

-- how many columns of calls one column of the picture holds: of more than 270, several
abbrev pub step_of : ℕ → ℕ
step_of columns = max ((columns + 269) / 270) 1

-- how many columns the picture has
abbrev pub shown_of : ℕ → ℕ → ℕ
shown_of columns step = max ((columns + step - 1) / step) 1

-- how many units a lane is high
abbrev pub lane_height : ℕ → ℕ
lane_height nodes =
    if nat_le nodes 4 then 46 else (if nat_le nodes 8 then 36 else (if nat_le nodes 16 then 26 else 18))

-- so many units for each of some parts
unfoldable pub scaled : ℕ → ℕ → ℕ → ℕ
scaled part unit parts = part * unit / parts

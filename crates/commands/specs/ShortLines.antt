-- How long the line is that is being read.
use Rattle.std.specs.Prelude.{ℕ, ◌+◌, ◌==◌, List, [], ◌∷◌, min, if◌then◌else◌}

-- the most bytes of a line of a drill
abbrev pub most_of_line : ℕ
most_of_line = 268435456

-- a newline begins a line anew; past the most one more counts for all
abbrev pub begun_with : ℕ → ℕ → ℕ
begun_with begun byte = if byte == 10 then 0 else min (begun + 1) (most_of_line + 1)

abbrev pub begun_after : ℕ → List ℕ → ℕ
begun_after begun [] = begun
begun_after begun (byte ∷ bytes) = begun_after (begun_with begun byte) bytes

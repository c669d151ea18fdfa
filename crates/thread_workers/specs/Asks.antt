-- What workers ask.
use Rattle.std.specs.Prelude.{ℕ, List, replicate}
use Rattle.std.specs.List.{flat_map}
use Rattle.node_calls.specs.Told.{AskTold}
use Rattle.thread_plans.specs.Plans.{BlockValue}

-- what a line asks: its call, as often as it says
abbrev pub asks_of_line : AskTold × ℕ → List AskTold
asks_of_line line = replicate line.1 line.0

-- what a block asks, line by line
abbrev pub asks_of_block : BlockValue → List AskTold
asks_of_block b = flat_map asks_of_line b.lines

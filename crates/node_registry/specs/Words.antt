-- How many random draws a call takes, and those of a trace.
use Rattle.std.specs.Prelude.{ℕ, List, [], ◌∷◌, ◌++◌}
use Rattle.node_calls.specs.Asks.{Asked, Call}
use Rattle.node_calls.specs.Asks as asks
use Rattle.node_steps.specs.Passes.{words_for}
use Rattle.node_core.specs.Traces.{Kept, state_known}

-- how many words a call takes: a pass as many as its point needs, and no other call any
abbrev pub words_taken : Kept → Asked → ℕ
words_taken k (asks.Pass name) = words_for (state_known k) name
words_taken k _ = 0

-- the words of a trace, the first ones first. Only its passes have some
abbrev pub words_of : List Call → List ℕ
words_of [] = []
words_of (c ∷ cs) = c.words ++ words_of cs

-- How many calls a served node accepts.
use Rattle.std.specs.Prelude.{ℕ, Option, Some, None}
use Rattle.node_steps.specs.Nodes.{max_trace_cap}

-- so many, or where no number is told as many as a node may be made to accept
abbrev pub cap_of : Option ℕ → ℕ
cap_of None = max_trace_cap
cap_of (Some cap) = cap

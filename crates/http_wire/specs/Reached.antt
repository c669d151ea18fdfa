-- Which node a wire has reached.
use Rattle.std.specs.Prelude.{ℕ, ◌==◌, Bool, false, Option, Some, None}
use Rattle.http_posts.specs.declared.connection.Connection.{Connection}

-- a connection stands to the server of the node, over which nothing was sent
abbrev pub is_ready_for : Option Connection → ℕ → Bool
is_ready_for None node = false
is_ready_for (Some connection) node = connection.peer.node == node

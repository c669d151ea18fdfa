-- How much a message has to tell at most: so many nodes a cluster has, and so many names a node holds.
use Rattle.std.specs.Prelude.{ℕ}

abbrev pub max_nodes : ℕ
max_nodes = 32

abbrev pub max_names : ℕ
max_names = 256

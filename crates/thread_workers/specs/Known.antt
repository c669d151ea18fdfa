-- What a worker waits for: that its node knows a setting.
use Rattle.std.specs.Prelude.{ℕ, List, Bool, false, ◌||◌, ◌&&◌, ◌==◌, is_some, nat_le, nat_lt, Option, Some, None}
use Rattle.stamp_register.specs.declared.key.Stamp.{Stamp}
use Rattle.stamp_register.specs.Keys.{KeyValue}
use Rattle.replica_state.specs.States.{State}

-- the point is set
abbrev pub is_set : Option KeyValue → Bool
is_set None = false
is_set (Some key) = is_some key.body

-- what holds is of this stamp, or of a later one, which has overtaken it
abbrev pub is_since : Stamp → Option KeyValue → Bool
is_since stamp None = false
is_since stamp (Some key) =
    nat_lt stamp.clock key.clock || (stamp.clock == key.clock && nat_le stamp.node key.node)

-- by what a node has of the point, and the stamp, if one is given
abbrev pub is_known : Option Stamp → Option KeyValue → Bool
is_known None key = is_set key
is_known (Some stamp) key = is_since stamp key

-- a state knows what is waited for; nothing is ever known of a point whose text is no name
abbrev pub has_come : State → Option (List ℕ) → Option Stamp → Bool
has_come state None stamp = false
has_come state (Some name) stamp = is_known stamp (state.key name)

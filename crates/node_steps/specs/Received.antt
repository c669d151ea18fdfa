-- What a message says, beside what the node holds that it is delivered to.
use Rattle.std.specs.Prelude.{ℕ, ◌==◌, ◌&&◌, Bool, false, true, nat_lt, List, length}
use Rattle.std.specs.List.{list_any}
use Rattle.std.specs.Ordering.{match_ordering}
use Rattle.std.specs.declared.cmp.Ordering.{Ordering}
use Rattle.counters.specs.Sums.{sum_below}
use Rattle.actions.specs.Value.{TermValue}
use Rattle.operations.specs.Operations.{count_at}
use Rattle.operations.specs.declared.counted.Counted.TheVariants.{Hits, Execs, Shifts}
use Rattle.replica_state.specs.States.{State}
use Rattle.replica_state.specs.Points.{Held}
use Rattle.replica_state.specs.Cells.{held_at}
use Rattle.replica_state.specs.Unions.{key_order, number_both}
use Rattle.node_steps.specs.Nodes.{setting_in, terms_in}
use Rattle.node_steps.specs.Refusals.{any_below, exceeds_count}

-- a number of a node's own, told under a key that stands so to the one that is held, is above what the
-- node knows
abbrev pub ahead_by : Ordering → ℕ → ℕ → Bool
ahead_by order own other = match_ordering order false (nat_lt own other) true

-- hits, executions, shifts or grants of a name that are told, under a key that stands so, are more of
-- node i than what is held of the name
abbrev pub are_hits_ahead : ℕ → Held → List (ℕ × ℕ) → Bool
are_hits_ahead i h hits = list_any (λ c. c.0 == i && nat_lt (h.number (Hits i)) c.1) hits

abbrev pub are_execs_ahead : ℕ → Held → Ordering → List (ℕ × ℕ × ℕ) → Bool
are_execs_ahead i h order execs = list_any (λ c. c.1 == i && ahead_by order (h.number (Execs c.0 i)) c.2) execs

abbrev pub are_shifts_ahead : ℕ → Held → Ordering → List (ℕ × ℕ × ℕ × ℕ) → Bool
are_shifts_ahead i h order shifts =
    list_any (λ c. c.1 == i && ahead_by order (h.number (Shifts c.0 i c.2)) c.3) shifts

abbrev pub are_grants_ahead : ℕ → Held → Ordering → List (ℕ × ℕ × ℕ) → Bool
are_grants_ahead i h order grants =
    list_any (λ c. c.1 == i && ahead_by order (h.number (Shifts c.0 i i)) c.2) grants

-- the terms that a name has after a state was told, where the key that is told stands so to the one that
-- is held
abbrev pub terms_both : Ordering → Held → Held → List TermValue
terms_both order h g =
    match_ordering order (terms_in (setting_in h.key)) (terms_in (setting_in g.key)) (terms_in (setting_in g.key))

-- the executions of a term at the nodes below a number
abbrev pub execs_both : ℕ → Ordering → Held → Held → ℕ → ℕ
execs_both nodes order h g term =
    sum_below nodes (λ node. number_both order (h.number (Execs term node)) (g.number (Execs term node)))

-- what the nodes below a number granted of a term
abbrev pub granted_both : ℕ → Ordering → Held → Held → ℕ → ℕ
granted_both nodes order h g term =
    sum_below nodes
    (λ node. number_both order (h.number (Shifts term node node)) (g.number (Shifts term node node)))

-- of one of these terms more are executed than are counted and granted
abbrev pub are_overspent : ℕ → Ordering → Held → Held → List TermValue → Bool
are_overspent nodes order h g terms =
    any_below (length terms) (λ term. exceeds_count (count_at terms term)
    (granted_both nodes order h g term) (execs_both nodes order h g term))

-- the same of what two states hold of a name
abbrev pub is_held_overspent : ℕ → Held → Held → Bool
is_held_overspent nodes h g =
    let order = key_order g.key h.key in
    are_overspent nodes order h g (terms_both order h g)

abbrev pub is_overspent_below : ℕ → State → State → List ℕ → Bool
is_overspent_below nodes v t name = is_held_overspent nodes (held_at v name) (held_at t name)

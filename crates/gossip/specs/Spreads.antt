-- What a spread shifts.
use Rattle.std.specs.Prelude.{◌≡◌, ◌⊎◌, ℕ, ◌+◌, ◌/◌, ◌-◌, ◌^◌, ◌==◌, if◌then◌else◌, false, min, unsigned_abs, List, [], length, map, slice_index}
use Rattle.std.specs.List.{flat_map, range_with_len}
use Rattle.actions.specs.Names.{is_name}
use Rattle.replica_state.specs.States.{rights_of}
use Rattle.node_steps.specs.declared.config.Config.{Config}
use Rattle.node_calls.specs.Asks.{Asked, Shift}
use Rattle.node_core.specs.Traces.{Kept, state_known}
use Rattle.node_registry.specs.Cells.{Cell, IsLawfulAt}
use Rattle.gossip.specs.declared.report.GossipReport.{GossipReport}
use Rattle.gossip.specs.declared.report.Ended.TheVariants.{Done, OutOfMemory}
use Rattle.gossip.specs.Parts.{IsPartOf}
use Rattle.gossip.specs.Reports.{others_below, own_asks_in}

-- what each other node is given of a node's rights to a term, which are never negative
unfoldable pub share_of : Kept → List ℕ → ℕ → ℕ
share_of k name term =
    min (unsigned_abs (rights_of (state_known k) name term k.config.node) / k.config.nodes) (2 ^ 64 - 1)

-- of each of the sixteen terms that a point may have
unfoldable pub shares_of : Kept → List ℕ → List ℕ
shares_of k name = map (share_of k name) (range_with_len 0 16)

-- the shifts of a term's share to the others below a number; none of a share of 0
abbrev pub shifts_below : Config → List ℕ → ℕ → ℕ → ℕ → List Asked
shifts_below config name term share n =
    if share == 0 then [] else map (λ to. Shift name term to share) (others_below config n)

-- the shifts of the first terms' shares, of these shares
unfoldable pub shifts_in : Config → List ℕ → List ℕ → ℕ → List Asked
shifts_in config name shares terms =
    flat_map (λ term. shifts_below config name term (slice_index shares term) config.nodes) (range_with_len 0 terms)

abbrev pub shifts_of : Kept → List ℕ → List Asked
shifts_of k name = shifts_in k.config name (shares_of k name) 16

-- the calls were shifts of the shares of what a lawful node had at one time, in order, and but for out of memory each
-- shift was made or refused
abbrev pub Spreads : Config → List ℕ → List ℕ → GossipReport → Type 0
Spreads config seed name r =
    (c : Cell) × IsLawfulAt config seed c
    × IsPartOf (own_asks_in config r.receipts.items) (shifts_of c.node name)
    × (r.ended ≡ Done → length r.receipts.items + r.refused ≡ length (shifts_of c.node name))

-- no call was made: out of memory, or the name is none
abbrev pub SpreadsNothing : List ℕ → GossipReport → Type 0
SpreadsNothing name r =
    (r.receipts.items ≡ []) × (r.refused ≡ 0) × ((r.ended ≡ OutOfMemory) ⊎ (is_name name ≡ false))

-- no message was made or taken in
abbrev pub HasNoMessage : GossipReport → Type 0
HasNoMessage r = (r.emitted ≡ 0) × (r.lost ≡ 0) × (r.delivered ≡ 0)

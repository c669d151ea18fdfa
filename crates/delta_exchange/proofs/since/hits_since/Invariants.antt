use Rattle.std.proofs.Common.{◌≡◌, ◌++◌}
use Rattle.std.specs.List.{flat_map}
use Rattle.replica_state.specs.Stored.{reader_held}
use Rattle.delta_exchange.specs.Cells.{HitsFit}
use Rattle.delta_exchange.specs.Since.{hit_of, later, hits_since}
use Rattle.delta_exchange.proofs.since.hits_since.Given as goal

abbrev pub invariant-loop-counted : goal.invariant-loop-counted
invariant-loop-counted g l = record {
  fit : HitsFit l.hits.items;
  cells : l.hits.items ++ flat_map (later l.marks l.base (hit_of (reader_held g.S.Stored.held l.held)))
      l.counted-iterator ≡ hits_since (reader_held g.S.Stored.held l.held) l.base l.marks;
}

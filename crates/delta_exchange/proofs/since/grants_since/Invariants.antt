use Rattle.std.proofs.Common.{◌≡◌, ◌++◌}
use Rattle.std.specs.List.{flat_map}
use Rattle.replica_state.specs.Stored.{reader_held}
use Rattle.delta_exchange.specs.Cells.{ExecsFit}
use Rattle.delta_exchange.specs.Since.{grant_of, later, grants_since}
use Rattle.delta_exchange.proofs.since.grants_since.Given as goal

abbrev pub invariant-loop-counted : goal.invariant-loop-counted
invariant-loop-counted g l = record {
  fit : ExecsFit l.grants.items;
  cells : l.grants.items ++ flat_map (later l.marks l.base (grant_of (reader_held g.S.Stored.held l.held)))
      l.counted-iterator ≡ grants_since (reader_held g.S.Stored.held l.held) l.base l.marks;
}

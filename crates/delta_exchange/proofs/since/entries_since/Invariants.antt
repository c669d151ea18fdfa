use Rattle.std.proofs.Common.{◌≡◌, ◌++◌, map}
use Rattle.std.specs.List.{AllByRecursion, flat_map}
use Rattle.message_format.specs.Messages.{entry_value}
use Rattle.delta_exchange.specs.Cells.{EntriesFit}
use Rattle.delta_exchange.specs.Since.{AreCellsOrdered, entry_marked, entries_since}
use Rattle.delta_exchange.proofs.since.entries_since.Given as goal

abbrev pub invariant-loop-name : goal.invariant-loop-name
invariant-loop-name g l = record {
  fit : EntriesFit (map entry_value l.entries.items);
  ordered : AllByRecursion (AreCellsOrdered (g.R.Replica.state l.replica) l.base) l.name-iterator →
      AllByRecursion (AreCellsOrdered (g.R.Replica.state l.replica) l.base) l.marks.names.entries;
  cells : map entry_value l.entries.items ++ flat_map (entry_marked (g.R.Replica.state l.replica) l.base)
      l.name-iterator ≡ entries_since (g.R.Replica.state l.replica) l.base l.marks;
}

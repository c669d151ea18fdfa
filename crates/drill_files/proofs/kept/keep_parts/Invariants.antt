use Rattle.std.proofs.Common.{◌≡◌, ◌<◌, ◌≤◌, ℕ, get_or}
use Rattle.streams.specs.declared.watched.Watched.{Watched}
use Rattle.drill_files.specs.Kept.{KeepsPart}
use Rattle.drill_files.proofs.kept.keep_parts.Given as goal

abbrev pub invariant-loop-node : goal.invariant-loop-node
invariant-loop-node g l = record {
  kept : (i : ℕ) → i < l.node
      → KeepsPart g.D.Write.contents l.size.nodes l.size.trace_cap l.traces l.initial.files l.files i;
  rest : (i : ℕ) (w : Watched g.row.D.Denot) → l.node ≤ i → get_or l.files i w ≡ get_or l.initial.files i w;
}

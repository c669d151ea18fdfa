use Rattle.std.proofs.Common.{◌≡◌, ◌++◌, string_bytes}
use Rattle.drill_picture.specs.Charts.{below, labels_below}
use Rattle.drill_picture.proofs.charts.push_labels.Given as goal

abbrev pub invariant-loop-node : goal.invariant-loop-node
invariant-loop-node l = record {
  low : l.low ≡ below l.row l.node;
  text : string_bytes l.out ≡ string_bytes l.initial.out ++ labels_below l.frame.top l.frame.most l.row l.node;
}

use Rattle.std.proofs.Common.{◌≡◌, false, length, All}
use Rattle.streams.specs.Watched.{has_failed}
use Rattle.drill_files.proofs.files.part_files.Given as goal

abbrev pub invariant-loop-node : goal.invariant-loop-node
invariant-loop-node g l = record {
  number : length l.files.items ≡ l.node;
  sound : All (λ file. has_failed file ≡ false) l.files.items;
}

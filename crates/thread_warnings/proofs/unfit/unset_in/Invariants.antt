use Rattle.std.proofs.Common.{◌≡◌, ◌≤◌, ◌*◌, ◌^◌, take}
use Rattle.thread_warnings.specs.Unfit.{unset_in}
use Rattle.thread_warnings.proofs.unfit.unset_in.Given as goal

abbrev pub invariant-loop-list : goal.invariant-loop-list
invariant-loop-list l = record {
  so_far : l.unset ≡ unset_in (take l.list-index l.lists);
  few : l.unset ≤ l.list-index * 2 ^ 64;
}

use Rattle.std.proofs.Common.{◌≡◌, ◌+◌, ◌++◌, ℕ, List, Some, length, map}
use Rattle.std.specs.Prelude.{vec_len, vec_capacity}
use Rattle.actions.specs.Value.{TermValue}
use Rattle.actions.specs.Canonical.{canonical}
use Rattle.operations.specs.Operations.{IsIn, operation}
use Rattle.message_format.specs.Spelling.{IsBody}
use Rattle.node_steps.specs.Settings.{operations_issued}
use Rattle.node_steps.proofs.load.settings_issued.Given as goal

abbrev pub invariant-loop-name : goal.invariant-loop-name
invariant-loop-name l = record {
  last : l.last ≡ l.fn.clock + length l.yielded;
  ops : map operation l.ops.items ≡ operations_issued l.me l.fn.clock
      (map (λ point. (point.0, Some (canonical point.1))) l.yielded);
  many : vec_len l.ops ≡ length l.yielded;
  room : vec_capacity l.ops ≡ length l.fn.points.items;
  left : l.name-iterator.rest.len ≡ length l.name-iterator.rest.items;
  bodies : (s : List ℕ × List TermValue) → IsIn s l.yielded → IsBody (Some (canonical s.1));
  whole : l.fn.points.items ≡ l.yielded ++ l.name-iterator.rest.items;
}

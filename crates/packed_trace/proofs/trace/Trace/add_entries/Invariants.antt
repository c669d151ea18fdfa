use Rattle.std.proofs.Common.{◌≡◌, ◌++◌, map}
use Rattle.node_calls.specs.Told.{told}
use Rattle.packed_trace.proofs.trace.Trace.add_entries.Given as goal

abbrev pub invariant-loop-entry : goal.invariant-loop-entry
invariant-loop-entry l =
    l.self.calls ++ map told l.entry-iterator.rest.items ≡ l.initial.self.calls ++ map told l.fn.entries.items

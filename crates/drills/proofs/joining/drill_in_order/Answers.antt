use Rattle.std.proofs.Common.{◌≡◌, map, ◌∙◌, arith}
use Rattle.drills.specs.Drills.{lists_told, traces_told}
use Rattle.drills.specs.Joined.{trace_of}
use Rattle.drills.specs.Parts.{part_of}
use Rattle.drills.proofs.Joins.{one_list, one_trace}
use Rattle.drills.proofs.joining.drill_in_order.Goals as goal

pub loop-node-preserved : goal.loop-node-preserved
loop-node-preserved c =
    let parts = map part_of c.args.parts.items in
    let n = c.loop-node.node in
    let drill = c.loop-node.drill in
    let longer = c.add_node.new.drill in
    let calls = trace_of n (map part_of c.loop-node.parts.items) in
    let same : calls ≡ trace_of n parts = c.loop-node.invariant.rest n (omega arith) in
    let more = c.in_ok-add_node.ensures in
    record {
      traces = one_trace n parts (traces_told drill.traces.items) (traces_told longer.traces.items) calls
          c.loop-node.invariant.traces more.traces same;
      lists = one_list n parts (lists_told drill.lists.items) (lists_told longer.lists.items) calls
          c.loop-node.invariant.lists more.lists same;
      rest = λ m le. more.others m (λ e. omega (arith, le, e)) ∙ c.loop-node.invariant.rest m (omega (arith, le));
    }

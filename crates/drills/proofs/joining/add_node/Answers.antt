use Rattle.std.proofs.Common.{map, ap, ◌∙◌}
use Rattle.drills.specs.Joined.{receipts_from, trace_of}
use Rattle.drills.specs.Parts.{part_of}
use Rattle.drills.proofs.Joins.{list_behind, trace_behind}
use Rattle.drills.proofs.joining.add_node.Goals as goal

pub returns-clause-traces : goal.returns-clause-traces
returns-clause-traces c =
    trace_behind c.args.drill.now.traces.items c.push-2.new.self.items c.take_trace-trace.result
    (trace_of c.args.node (map part_of c.args.parts.now.items)) c.in_ok-push-2.ensures.items
    c.take_trace-trace.ensures.taken

pub returns-clause-lists : goal.returns-clause-lists
returns-clause-lists c =
    list_behind c.args.drill.now.lists.items c.push.new.self.items c.in_ok-receipts_of.field-0
    (receipts_from c.args.node 0 (trace_of c.args.node (map part_of c.args.parts.now.items)))
    c.in_ok-push.ensures.items
    (c.in_ok-receipts_of.ensures ∙ ap (receipts_from c.args.node 0) c.take_trace-trace.ensures.taken)

pub returns-clause-others : goal.returns-clause-others
returns-clause-others c = c.take_trace-trace.ensures.others

use Rattle.std.proofs.Common.{arith, length, vec_len}
use Rattle.std.proofs.lemmas.List.Sums.{sum_by-append, sum_by_push}
use Rattle.thread_scripts.proofs.played.Played.with.Goals as goal

pub invariant_of-result : goal.invariant_of-result
invariant_of-result c =
    let traces = sum_by_push (λ trace. length trace.calls) c.args.self.traces.items c.args.node.trace in
    let lists = sum_by-append (λ list. vec_len list) c.args.self.lists.items c.args.node.lists.items in
    let was = c.args.self.counted in
    let more = c.args.node.counted in
    record {
      counted = rw (c.in_ok-push.ensures.items, c.in_ok-put_behind.ensures) (omega (arith, traces, lists, was, more));
    }

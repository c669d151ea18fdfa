use Rattle.std.proofs.Common.{◌≡◌, ◌+◌, length, vec_len}
use Rattle.std.specs.Prelude.{IfOk}
use Rattle.std.specs.Vec.Iter.{into_iter_items, into_iter_len}
use Rattle.thread_plans.specs.Plans.{plan_value}
use Rattle.thread_scripts.specs.Plays.{AllFrom, AreListsBelow, AreOfNode, AreTracesOf, IsTraceOf, config_at, gossip_at}
use Rattle.thread_scripts.proofs.played.play_waiting.Given as goal

abbrev pub invariant-loop-run : goal.invariant-loop-run
invariant-loop-run g l =
    let plan = plan_value l.fn.plan in
    let waits = l.fn.waits.awaits.items in
    record {
      len : vec_len l.played.traces + into_iter_len l.run-iterator ≡ l.fn.plan.size.nodes;
      traces : AreTracesOf plan l.played.traces.items;
      rest : AllFrom (λ node run. IfOk run (λ p. IsTraceOf (config_at plan node) l.fn.plan.seed p.trace))
          (length l.played.traces.items) (into_iter_items l.run-iterator);
      lists : AreListsBelow plan waits (length l.played.traces.items) l.played.lists.items
          (l.played.start_faults.items, l.played.faults.items) l.played.vain.items;
      rest_lists : AllFrom
          (λ node run. IfOk run
          (λ p. AreOfNode (config_at plan node) l.fn.plan.seed plan (gossip_at plan node) waits p.lists.items
          (p.start_faults.items, p.faults.items) p.vain.items))
          (length l.played.traces.items) (into_iter_items l.run-iterator);
    }

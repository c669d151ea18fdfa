use Rattle.std.proofs.Common.{◌≡◌, ◌∙◌, ◌++◌, ◌∷◌, [], ap, arith, subst}
use Rattle.std.specs.Prelude.{option_map}
use Rattle.thread_plans.specs.Plans.{plan_value}
use Rattle.thread_workers.specs.Workers.{of_node}
use Rattle.thread_workers.proofs.Seats.{seat_calls}
use Rattle.thread_scripts.specs.Plays.{AreOfWork}
use Rattle.thread_scripts.proofs.nodes.make_calls.Goals as goal

pub with-requires-clause-counted : goal.with-requires-clause-counted
with-requires-clause-counted g c =
    let calls = seat_calls c.in_ok-seat.seat c.in_ok-seat.receipts.items c.in_ok-seat.ensures.counted in
    omega (arith, calls, c.in_ok-seat.receipts.ok.0)

pub returns-clause-calls : goal.returns-clause-calls
returns-clause-calls g c =
    let config = g.L.Label.config in
    let seed = g.L.Label.seed in
    let waits = g.L.Waiting.waits in
    let plan = plan_value c.args.plan.now in
    let gossip = option_map (λ g. (g.wire, g.rounds)) c.args.gossip in
    let starts = c.in_ok-seat.receipts in
    let first : c.in_ok-finished.finished.lists.items ≡ starts ∷ [] =
    c.in_ok-finished.ensures.lists ∙ ap (λ ls. ls ++ starts ∷ []) c.new-finished.ensures.none in
    let all = c.in_ok-all in
    let lists = all.all.lists.items in
    let faults = all.faults.items in
    let vain = all.vain.items in
    record {
      starts = starts;
      refused = c.in_ok-seat.field-0-2;
      given = all.ensures.given;
      started = rw c.deref.ensures.value at c.in_ok-seat.ensures.done;
      beside = subst (λ node. AreOfWork config seed (of_node node plan.blocks) gossip waits (starts ∷ []) lists faults vain)
          c.requires.node
          (subst (λ was. AreOfWork config seed (of_node c.args.node plan.blocks) gossip waits was lists faults vain) first
          all.ensures.calls);
    }

use Rattle.std.proofs.Common.{◌≡◌, ◌+◌, ◌∙◌, ap, arith, length, map, sym}
use Rattle.std.specs.Prelude.{vec_len}
use Rattle.std.specs.List.{range_with_len}
use Rattle.std.specs.Vec.Iter.{into_iter_items, into_iter_len}
use Rattle.std.proofs.lemmas.List.FromFn.{length-map-range_with_len}
use Rattle.gossip.specs.Mailboxes.{new_place}
use Rattle.thread_plans.specs.Plans.{plan_value}
use Rattle.thread_scripts.specs.Gossips.{gossip_over}
use Rattle.thread_scripts.specs.Plays.{config_at, gossip_at}
use Rattle.thread_scripts.proofs.Wires.{next_wire}
use Rattle.thread_scripts.proofs.Numbered.{AllFrom-push}
use Rattle.thread_scripts.proofs.played.jobs_of.Goals as goal

pub loop-wire-init : goal.loop-wire-init
loop-wire-init c =
    let nodes = c.args.plan.now.size.nodes in
    let gives = c.into_iter-wire-iterator.ensures.into_iter_gives in
    let wires = c.in_ok-wire-items.wire-items in
    let made : wires.items ≡ map (new_place nodes) (range_with_len 0 nodes) = c.in_ok-wire-items.ensures in
    let many : into_iter_len c.into_iter-wire-iterator.result ≡ nodes =
    omega (arith, gives.1, wires.ok.0, ap length made, length-map-range_with_len (new_place nodes) 0 nodes) in
    record {
      len = omega (arith, many, c.in_ok-jobs.ensures.len);
      room = omega (arith, c.in_ok-jobs.ensures.exact);
      wires = rw (c.in_ok-jobs.ensures.len, many) (gives.0 ∙ made);
      each = rw c.in_ok-jobs.ensures.items tt;
    }

pub loop-wire-preserved : goal.loop-wire-preserved
loop-wire-preserved c =
    let plan = plan_value c.args.plan.now in
    let nodes = c.args.plan.now.size.nodes in
    let was = c.loop-wire.invariant in
    let steps = c.in-Some.ensures.steps in
    let pushed = c.push_reserved.ensures in
    let jobs = c.loop-wire.jobs in
    let n = vec_len jobs in
    let k = into_iter_len c.next.new.self in
    let left : into_iter_len c.loop-wire.wire-iterator ≡ k + 1 = omega (arith, steps.1) in
    let wires = next_wire (new_place nodes) n k (into_iter_items c.loop-wire.wire-iterator)
    (into_iter_items c.next.new.self) c.in-Some.wire
    (was.wires ∙ ap (λ m. map (new_place nodes) (range_with_len n m)) left) steps.0 in
    let here : n ≡ 0 + length jobs.items = omega (arith, jobs.ok.0) in
    let number : c.len.result ≡ 0 + length jobs.items = omega (arith, c.len.ensures, jobs.ok.0) in
    let gossip = sym c.gossip_over-gossip.ensures ∙ ap (λ w. gossip_over w c.args.plan.now.gossip) wires.0 in
    record {
      len = omega (arith, was.len, pushed.len, steps.1);
      room = omega (arith, was.room, pushed.capacity);
      wires = rw pushed.len wires.1;
      each = rw pushed.items (AllFrom-push _ 0 jobs.items _ was.each
          (ap (config_at plan) number, gossip ∙ ap (gossip_at plan) here));
    }

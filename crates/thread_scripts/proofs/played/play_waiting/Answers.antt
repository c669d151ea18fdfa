use Rattle.std.proofs.Common.{rules, arith, ◌≡◌, ◌+◌, ◌∷◌, [], ℕ, IfOk, Result, length, length-append, ap, subst}
use Rattle.std.specs.Vec.Iter.{into_iter_items}
use Rattle.std.specs.declared.alloc.AllocError.{AllocError}
use Rattle.thread_plans.specs.Plans.{plan_value}
use Rattle.thread_warnings.specs.Runs.{RunFaults}
use Rattle.thread_scripts.specs.Plays.{AllFrom, AreListsBelow, AreOfNode, IsTraceOf, Part, config_at, gossip_at}
use Rattle.thread_scripts.specs.declared.nodes.NodePlayed.{NodePlayed}
use Rattle.thread_scripts.proofs.NodeLists.{below_more, below_none}
use Rattle.thread_scripts.proofs.Numbered.{AllFrom-push}
use Rattle.thread_scripts.proofs.played.play_waiting.Goals as goal

pub loop-run-init : goal.loop-run-init
loop-run-init g c =
    let each = c.in_ok-run-items.ensures.each in
    let same = c.into_iter-run-iterator.ensures.into_iter_gives.0 in
    record {
      len = search rules;
      traces = rw c.new-played.ensures.none tt;
      rest = rw (c.new-played.ensures.none, same) each;
      lists = rw (
        c.new-played.ensures.none,
        c.new-played.ensures.no_list,
        c.new-played.ensures.no_start_fault,
        c.new-played.ensures.no_fault,
        c.new-played.ensures.none_in_vain,
      )
          (below_none (plan_value c.args.plan.now) c.args.waits.now.awaits.items);
      rest_lists = rw (c.new-played.ensures.none, same) c.in_ok-run-items.ensures.lists;
    }

pub loop-run-preserved : goal.loop-run-preserved
loop-run-preserved g c =
    let plan = plan_value c.args.plan.now in
    let seed = c.args.plan.now.seed in
    let waits = c.args.waits.now.awaits.items in
    let Q : ℕ → Result NodePlayed AllocError → Type 0 = λ node run. IfOk run
    (λ p. IsTraceOf (config_at plan node) seed p.trace) in
    let was = c.loop-run.invariant in
    let steps = c.in-Some.ensures.steps in
    let more = c.in_ok-played.ensures in
    let before = c.loop-run.played.traces.items in
    let trace = c.in_ok-run.field-0.trace in
    let now : AllFrom Q (length before) (c.in-Some.run' ∷ into_iter_items c.next.new.self) =
    subst (λ xs. AllFrom Q (length before) xs) steps.0 was.rest in
    let this : IsTraceOf (config_at plan (length before)) seed trace = rw c.in_ok-run.was at now.0 in
    let Q_lists : ℕ → Result NodePlayed AllocError → Type 0 = λ node run. IfOk run
    (λ p. AreOfNode (config_at plan node) seed plan (gossip_at plan node) waits p.lists.items
    (p.start_faults.items, p.faults.items) p.vain.items) in
    let now_lists : AllFrom Q_lists (length before) (c.in-Some.run' ∷ into_iter_items c.next.new.self) =
    subst (λ xs. AllFrom Q_lists (length before) xs) steps.0 was.rest_lists in
    let node = c.in_ok-run.field-0 in
    let part : Part = record {
      lists = node.lists.items;
      faults = (node.start_faults.items, node.faults.items);
      vain = node.vain.items;
    } in
    let before_now : RunFaults = (c.loop-run.played.start_faults.items, c.loop-run.played.faults.items) in
    let n = length before in
    let these : AreOfNode (config_at plan n) seed plan (gossip_at plan n) waits part.lists part.faults part.vain =
    rw c.in_ok-run.was at now_lists.0 in
    let from_0 : length before ≡ 0 + length before = omega arith in
    let longer : length c.in_ok-played.played.traces.items ≡ length before + 1 =
    omega (arith, ap length more.traces, length-append before (trace ∷ [])) in
    record {
      len = omega (arith, was.len, steps.1, more.len);
      traces = rw more.traces (AllFrom-push _ 0 before trace was.traces
          (subst (λ k. IsTraceOf (config_at plan k) seed trace) from_0 this));
      rest = rw longer now.1;
      lists = rw longer (below_more plan waits n c.loop-run.played.lists.items _ before_now _
          c.loop-run.played.vain.items _ part was.lists these more.lists more.start_faults more.faults more.vain);
      rest_lists = rw longer now_lists.1;
    }

pub returns-clause-lists : goal.returns-clause-lists
returns-clause-lists g c =
    let plan = plan_value c.args.plan.now in
    let was = c.loop-run.invariant in
    let all : length c.loop-run.played.traces.items ≡ plan.nodes =
    omega (arith, was.len, c.loop-run.played.traces.ok.0, c.in-None.ensures.steps.0) in
    subst (λ n. AreListsBelow plan c.args.waits.now.awaits.items n c.loop-run.played.lists.items
    (c.loop-run.played.start_faults.items, c.loop-run.played.faults.items) c.loop-run.played.vain.items) all was.lists

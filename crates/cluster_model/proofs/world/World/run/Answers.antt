use Rattle.std.proofs.Common.{◌≡◌, ◌+◌, ◌++◌, ◌∷◌, ◌∙◌, arith, ap, sym, subst, length, take, map, []}
use Rattle.std.proofs.lemmas.List.{take_more, take_all, map-append}
use Rattle.cluster_model.specs.declared.event.Event.{Event}
use Rattle.cluster_model.specs.Events.{Answer, event_value, answer_value}
use Rattle.cluster_model.specs.Runs.{asked, told, IsAnswer, after_answer, Continues, happened}
use Rattle.cluster_model.proofs.RunLemmas.{begun, one_more_event, escrow_holds, holds_what_it_learnt}
use Rattle.cluster_model.proofs.world.World.run.Goals as goal

pub loop-event-init : goal.loop-event-init
loop-event-init c =
    record {
      runs = rw (c.in_ok-answers.ensures.items) (begun c.args.self.now);
      room = (let enough = c.in_ok-answers.ensures.capacity in omega (arith, enough));
      count = c.in_ok-answers.ensures.len;
    }

pub push_reserved-requires : goal.push_reserved-requires
push_reserved-requires c =
    let room = c.loop-event.invariant.room in
    let count = c.loop-event.invariant.count in
    let more = c.loop-event-test.true in
    omega (arith, room, count, more)

pub loop-event-preserved : goal.loop-event-preserved
loop-event-preserved c =
    let so = c.loop-event.invariant.runs in
    let size = so.size in
    let e = event_value c.event-item.result in
    let answer : Answer = answer_value (length c.args.self.now.nodes) c.step.result in
    let sized : answer_value (length c.loop-event.self.nodes) c.step.result ≡ answer =
    ap (λ n. answer_value n c.step.result) size in
    let answered = subst (λ (a : Answer). IsAnswer c.loop-event.self e a) sized c.step.ensures.answer in
    let after = subst (λ (a : Answer). c.step.new.self ≡ after_answer c.loop-event.self e a) sized
    c.step.ensures.after in
    let continues = subst (λ (a : Answer). Continues c.loop-event.self c.step.new.self (happened c.loop-event.self e a))
    sized c.step.ensures.history in
    let events : take (c.loop-event.event-index + 1) c.args.events.now ≡ take c.loop-event.event-index
    c.args.events.now ++ c.event-item.result ∷ [] =
    take_more c.args.events.now c.loop-event.event-index c.event-item.result c.loop-event-test.true
    ∙ ap (λ (x : Event). take c.loop-event.event-index c.args.events.now ++ x ∷ []) (sym c.event-item.is) in
    let asked_is = ap asked events ∙ map-append event_value (take c.loop-event.event-index c.args.events.now)
    (c.event-item.result ∷ []) in
    let told_is = ap (map (answer_value (length c.args.self.now.nodes))) c.push_reserved.ensures.items ∙
    map-append (answer_value (length c.args.self.now.nodes)) c.loop-event.answers.items (c.step.result ∷ []) in
    record {
      runs = rw (asked_is, told_is) (one_more_event c.args.self.now
          (asked (take c.loop-event.event-index c.args.events.now))
          (told c.args.self.now (record { answers = c.loop-event.answers }))
          c.loop-event.self so e answer c.step.new.self answered after continues);
      room = (let room = c.loop-event.invariant.room in let same = c.push_reserved.ensures.capacity in
          omega (arith, room, same));
      count = (let count = c.loop-event.invariant.count in let more = c.push_reserved.ensures.len in
          omega (arith, count, more));
    }

pub returns-clause-answers : goal.returns-clause-answers
returns-clause-answers c =
    rw (← take_all c.loop-event.event-index c.args.events.now c.loop-event-test.false)
    c.loop-event.invariant.runs.answers_are

pub returns-clause-after : goal.returns-clause-after
returns-clause-after c =
    rw (← take_all c.loop-event.event-index c.args.events.now c.loop-event-test.false)
    c.loop-event.invariant.runs.now_is

pub returns-clause-history : goal.returns-clause-history
returns-clause-history c =
    rw (← take_all c.loop-event.event-index c.args.events.now c.loop-event-test.false)
    c.loop-event.invariant.runs.history

pub returns-clause-same : goal.returns-clause-same
returns-clause-same c =
    let history = c.loop-event.invariant.runs.history in
    rw (← take_all c.loop-event.event-index c.args.events.now c.loop-event-test.false)
    (λ cluster past has. holds_what_it_learnt cluster _ c.loop-event.self (history cluster past has))

pub returns-clause-escrow : goal.returns-clause-escrow
returns-clause-escrow c =
    let history = c.loop-event.invariant.runs.history in
    rw (← take_all c.loop-event.event-index c.args.events.now c.loop-event-test.false)
    (λ cluster past has. escrow_holds cluster _ c.loop-event.self (history cluster past has))

pub returns-clause-executions : goal.returns-clause-executions
returns-clause-executions c =
    rw (← take_all c.loop-event.event-index c.args.events.now c.loop-event-test.false)
    c.loop-event.invariant.runs.executions

pub returns-clause-honest : goal.returns-clause-honest
returns-clause-honest c =
    rw (← take_all c.loop-event.event-index c.args.events.now c.loop-event-test.false)
    c.loop-event.invariant.runs.honest

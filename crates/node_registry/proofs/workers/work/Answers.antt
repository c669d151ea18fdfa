use Rattle.std.proofs.Common.{◌∙◌, [], arith, sym}
use Rattle.std.specs.Prelude.{true}
use Rattle.std.proofs.lemmas.List.{nil_from_length}
use Rattle.std.specs.Vec.Iter.{into_iter_items}
use Rattle.node_registry.specs.Workers.{AreAnswered}
use Rattle.node_registry.specs.Workers as workers
use Rattle.node_registry.proofs.SeatReceipts.{after_more, given_more}
use Rattle.node_registry.proofs.WorkersLemmas.{at_the_end, next_accepted, next_refused, whole}
use Rattle.node_registry.proofs.workers.work.Goals as goal
use Rattle.node_registry.proofs.workers.work.Goals.{in-Ok, in-Err, in-None, in-Some+then-not-turn}

pub loop-ask-preserved : goal.loop-ask-preserved
loop-ask-preserved g c =
    let config = g.L.Label.config in
    let seed = g.L.Label.seed in
    let was = c.loop-ask.invariant in
    let steps = c.in-Some.ensures.steps in
    let says = g.G.Gate.says c.args.gate.now c.args.worker in
    let hears = g.G.Gate.hears c.args.gate.now c.args.worker in
    let may : says c.loop-ask.index true = rw c.if-not-turn.false at c.turn.ensures in
    let all = c.args.task.job.asks.items in
    let left = into_iter_items c.loop-ask.ask-iterator in
    let rest = into_iter_items c.next.new.self in
    let rs = c.loop-ask.receipts.items in
    let fs = c.loop-ask.faults.items in
    let ns = c.loop-ask.refusals in
    let now = c.enter_noting.new.refusals in
    elim c.match-enter_noting.branch [
      | in-Ok w ↦
          let pushed = w.push_reserved.ensures in
          let told = w.in-Ok.ensures in
          let new = w.push_reserved.new.self.items in
          rw (w.receipts-is, w.faults-is) record {
            few = omega (arith, steps.1);
            room = omega (arith, steps.1, pushed.len, pushed.capacity);
            room_for_faults = omega (arith, steps.1);
            counted = after_more c.args.task.job.seat c.loop-ask.seat c.enter_noting.new.seat rs new w.in-Ok.receipt
                was.counted told.counted pushed.items;
            given = given_more config seed c.args.task.job.seat c.loop-ask.seat rs new w.in-Ok.receipt was.given
                was.counted told.given told.since pushed.items;
            answered = next_accepted config seed says hears all c.loop-ask.index left rest c.in-Some.ask w.in-Ok.receipt
                rs new fs ns now
                was.answered steps.0 told.asked may c.answered.ensures pushed.items told.unnoted;
          }
      | in-Err w ↦
          let pushed = w.push_reserved-in-Err.ensures in
          let told = w.in-Err.ensures in
          rw (w.receipts-is, w.faults-is) record {
            few = omega (arith, steps.1);
            room = omega (arith, steps.1);
            room_for_faults = omega (arith, steps.1, pushed.len, pushed.capacity);
            counted = told.err ∙ was.counted;
            given = was.given;
            answered = next_refused config seed says hears all c.loop-ask.index left rest c.in-Some.ask w.in-Err.fault
                rs fs w.push_reserved-in-Err.new.self.items ns now
                was.answered steps.0 told.refused may c.answered.ensures pushed.items told.noted;
          }
    ]

pub returns : goal.returns
returns g c =
    let config = g.L.Label.config in
    let seed = g.L.Label.seed in
    let was = c.loop-ask.invariant in
    let says = g.G.Gate.says c.args.gate.now c.args.worker in
    let hears = g.G.Gate.hears c.args.gate.now c.args.worker in
    let left = into_iter_items c.loop-ask.ask-iterator in
    let none_more : AreAnswered config seed says hears c.loop-ask.index left [] [] [] =
    elim c.match-next.branch [
      | in-None w ↦ at_the_end config seed says hears c.loop-ask.index left
          (nil_from_length left (sym c.loop-ask.ask-iterator.rest.ok.0 ∙ w.in-None.ensures.steps.0))
      | in-Some+then-not-turn w ↦ workers.stopped (rw w.if-not-turn.true at w.turn.ensures)
    ] in record {
      counted = was.counted;
      given = was.given;
      answered = whole config seed says hears c.args.task.job.asks.items c.loop-ask.index left c.loop-ask.receipts.items
          c.loop-ask.faults.items c.loop-ask.refusals was.answered none_more;
    }

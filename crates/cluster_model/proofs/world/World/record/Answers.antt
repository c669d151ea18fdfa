use Rattle.cluster_model.specs.Events.{event_value}
use Rattle.cluster_model.proofs.WorldClauses.{answered, recorded}
use Rattle.cluster_model.proofs.world.World.record.Goals as goal

pub returns-in_ok-step : goal.returns-in_ok-step
returns-in_ok-step c =
    let e = event_value c.args.event.now in
    let told = answered c.args.self.now e _ c.in_ok-step.ensures.answer in
    record {
      answer = recorded c.args.self.now c.step.new.self e _ told c.in_ok-step.ensures.after;
      after = c.in_ok-step.ensures.after;
      history = c.in_ok-step.ensures.history;
      refused = tt;
      err = tt;
    }

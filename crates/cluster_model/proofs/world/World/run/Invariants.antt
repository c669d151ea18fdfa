use Rattle.std.proofs.Common.{◌≡◌, ◌≤◌, length, take}
use Rattle.std.specs.Prelude.{vec_len, vec_capacity}
use Rattle.cluster_model.specs.Runs.{asked, told}
use Rattle.cluster_model.proofs.RunLemmas.{RunsTo}
use Rattle.cluster_model.proofs.world.World.run.Given as goal

-- the events so far were answered, and there is room for the answers to the others
abbrev pub invariant-loop-event : goal.invariant-loop-event
invariant-loop-event l = record {
  runs : RunsTo l.initial.self (asked (take l.event-index l.events))
      (told l.initial.self (record { answers = l.answers })) l.self;
  room : length l.events ≤ vec_capacity l.answers;
  count : vec_len l.answers ≡ l.event-index;
}

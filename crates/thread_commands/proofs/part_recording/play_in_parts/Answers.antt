use Rattle.thread_commands.proofs.part_recording.play_in_parts.Goals as goal

pub returns-clause-ok : goal.returns-clause-ok
returns-clause-ok g c =
    let played = c.in_ok-played.played in
    record {
      traces = played.traces.items;
      lists = played.lists.items;
      faults = (played.start_faults.items, played.faults.items);
      legal = c.in_ok-played.ensures.traces;
      given = c.in_ok-played.ensures.lists;
      told = c.in_ok-printed.ensures;
      kept = rw c.deref.ensures.value at c.in_ok-keep_parts.ensures.kept;
    }

use Rattle.thread_commands.proofs.checking.check_script.Goals as goal

pub returns-clause-ok : goal.returns-clause-ok
returns-clause-ok g c =
    let run = c.in_ok-run.run' in (
      run.played.traces.items,
      run.played.lists.items,
      (run.played.start_faults.items, run.played.faults.items),
      c.in_ok-run.ensures.ok,
    )

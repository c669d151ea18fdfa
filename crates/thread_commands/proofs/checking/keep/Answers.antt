use Rattle.thread_commands.proofs.checking.keep.Goals as goal

pub keep_parts-requires-clause-files : goal.keep_parts-requires-clause-files
keep_parts-requires-clause-files g c = rw c.deref_mut.ensures.value c.in_ok-files-in-None-Some.ensures.number

pub keep_parts-requires-clause-sound : goal.keep_parts-requires-clause-sound
keep_parts-requires-clause-sound g c = rw c.deref_mut.ensures.value c.in_ok-files-in-None-Some.ensures.sound

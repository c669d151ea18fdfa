use Rattle.actions.proofs.TrimLemmas.{trimmed_is}
use Rattle.actions.proofs.reading.trim_spaces.Goals as goal

pub returns : goal.returns
returns c =
    trimmed_is c.args.text.now c.trim_start_matches.result.now c.trim_end_matches.result.now
    c.trim_start_matches.ensures.matches c.trim_end_matches.ensures.matches

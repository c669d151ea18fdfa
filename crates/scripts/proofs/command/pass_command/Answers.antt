use Rattle.scripts.proofs.Spaces.{has_space-front}
use Rattle.scripts.proofs.command.pass_command.Goals as goal

pub pass_of-requires-in-Some-cut : goal.pass_of-requires-in-Some-cut
pass_of-requires-in-Some-cut c = has_space-front c.in-Some.pass.now c.in-Some-cut.name.now c.in-Some-cut.words.now
    c.in-Some-cut.ensures

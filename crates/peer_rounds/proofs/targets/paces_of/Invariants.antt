use Rattle.std.proofs.Common.{◌≡◌, map}
use Rattle.gossip_pace.specs.News.{first_pace}
use Rattle.peer_rounds.specs.Rounds.{told_below}
use Rattle.peer_rounds.proofs.targets.paces_of.Given as goal

abbrev pub invariant-loop-other : goal.invariant-loop-other
invariant-loop-other l = l.paces.items ≡ map first_pace (told_below l.fn.node l.other l.fn.named)

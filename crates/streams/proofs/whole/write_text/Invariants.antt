use Rattle.std.proofs.Common.{◌≡◌, length, false}
use Rattle.streams.specs.Watched.{has_failed, inner_of}
use Rattle.streams.specs.Streams.{GivesBefore}
use Rattle.streams.proofs.whole.write_text.Given as goal

-- what is out is the text without the rest
abbrev pub invariant-loop-rest : goal.invariant-loop-rest
invariant-loop-rest g l = record {
  given : GivesBefore l.rest l.text (g.W.Write.contents (inner_of l.initial.writer))
      (g.W.Write.contents (inner_of l.writer));
  failed : has_failed l.writer ≡ false;
}

abbrev pub decreases-loop-rest : goal.decreases-loop-rest
decreases-loop-rest g l = length l.rest

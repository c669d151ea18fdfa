use Rattle.delta_exchange.specs.Marks.{marks_value}
use Rattle.delta_exchange.specs.Versions.{value_of}
use Rattle.delta_exchange.proofs.ChangeLemmas.{no_marks}
use Rattle.delta_exchange.proofs.versioned.Versioned.new.Goals as goal

pub returns : goal.returns
unfolding value_of
returns g c = λ i. record {
  state = c.empty.ensures i;
  version = 0;
  known = λ j. c.new.ensures j i;
  acked = λ j. c.new-2.ensures j i;
  last = no_marks (marks_value c.new-3.result) c.new-3.ensures.key c.new-3.ensures.cell i;
}

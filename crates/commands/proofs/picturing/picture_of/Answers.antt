use Rattle.commands.proofs.picturing.picture_of.Goals as goal

pub returns-clause-drawn : goal.returns-clause-drawn
returns-clause-drawn c = record {
  verdict = c.in_ok-verdict.verdict;
  judged = c.in_ok-verdict.ensures.audited;
  drawn = rw (c.drawn_traces.ensures.first, c.deref.ensures.value) at c.in_ok-shown.ensures;
}

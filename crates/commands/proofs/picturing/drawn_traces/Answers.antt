use Rattle.std.proofs.Common.{length-take, sym, arith}
use Rattle.std.proofs.lemmas.List.{take_all}
use Rattle.commands.proofs.picturing.drawn_traces.Goals as goal

pub slice_bounds-result-end : goal.slice_bounds-result-end
slice_bounds-result-end c = simp length-take (omega arith)

pub returns-then-traces-gt-MOST_TRACES-clause-few : goal.returns-then-traces-gt-MOST_TRACES-clause-few
returns-then-traces-gt-MOST_TRACES-clause-few c = simp length-take (omega arith)

pub returns-else-traces-gt-MOST_TRACES-clause-first : goal.returns-else-traces-gt-MOST_TRACES-clause-first
returns-else-traces-gt-MOST_TRACES-clause-first c = sym (take_all 256 c.args.traces.now (omega arith))

use Rattle.std.proofs.Common.{length-take, sym, arith}
use Rattle.std.proofs.lemmas.List.{take_all}
use Rattle.command_line.proofs.quoting.first_bytes.Goals as goal

pub slice_bounds-result-end : goal.slice_bounds-result-end
slice_bounds-result-end c = simp length-take (omega arith)

pub returns-else-text-gt-MOST_SHOWN : goal.returns-else-text-gt-MOST_SHOWN
returns-else-text-gt-MOST_SHOWN c = sym (take_all 40 c.args.text.now (omega arith))

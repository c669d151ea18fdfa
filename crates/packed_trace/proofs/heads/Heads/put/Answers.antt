use Rattle.std.proofs.Common.{ap, sym, ◌∙◌, cond, Some}
use Rattle.packed_trace.specs.Heads.{head_of}
use Rattle.packed_trace.proofs.LastRows.{same_name}
use Rattle.packed_trace.proofs.heads.Heads.put.Goals as goal

pub returns-clause-ok : goal.returns-clause-ok
unfolding head_of
returns-clause-ok c = λ other.
    c.in_ok-insert.ensures.updates.0 other
    ∙ ap (λ t. cond t (Some c.args.row) (head_of c.args.self.now other)) (sym (same_name c.args.name other))

use Rattle.std.proofs.Common.{ap, sym, ◌∙◌, cond, Some}
use Rattle.audit.specs.Counts.{count_kept}
use Rattle.audit.proofs.CountsKept.{same_places}
use Rattle.audit.proofs.counts.Counts.put.Goals as goal

pub returns : goal.returns
unfolding count_kept
returns c = λ other at k.
    c.in_ok-insert.ensures.updates.0 (other, at.clock, at.node, k)
    ∙ ap (λ t. cond t (Some c.args.count) (count_kept c.args.self.now other at k))
    (sym (same_places c.args.name other c.args.stamp.clock c.args.stamp.node c.args.term at.clock at.node k))

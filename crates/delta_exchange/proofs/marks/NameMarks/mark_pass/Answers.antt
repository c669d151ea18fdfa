use Rattle.std.proofs.Common.{cond, ap, ◌∙◌}
use Rattle.delta_exchange.specs.Marks.{is_of}
use Rattle.delta_exchange.proofs.marks.NameMarks.mark_pass.Goals as goal

pub mark-requires-clause-room : goal.mark-requires-clause-room
mark-requires-clause-room c = c.begin_passes.ensures.kept c.args.hits c.requires.hits

pub mark-requires-2-clause-room : goal.mark-requires-2-clause-room
mark-requires-2-clause-room c =
    c.mark.ensures.kept c.args.execs (c.begin_passes.ensures.kept c.args.execs c.requires.execs)

pub returns-clause-cells : goal.returns-clause-cells
returns-clause-cells c = λ d.
    c.mark-2.ensures.cells d ∙ ap (λ x. cond (is_of c.args.execs d) c.args.version x)
    (c.mark.ensures.cells d ∙ ap (λ x. cond (is_of c.args.hits d) c.args.version x) (c.begin_passes.ensures.cells d))

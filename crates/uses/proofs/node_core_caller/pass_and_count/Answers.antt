use Rattle.std.proofs.Common.{◌≡◌, ◌+◌, length, ap, ◌∙◌}
use Rattle.std.proofs.lemmas.List.{length_push}
use Rattle.std.proofs.lemmas.Result.{IfOk-weaker}
use Rattle.uses.proofs.node_core_caller.pass_and_count.Goals as goal

pub returns-clause-ok : goal.returns-clause-ok
returns-clause-ok c =
    let before = c.args.node.now.trace in
    IfOk-weaker c.pass_with.result _ (λ _. length c.pass_with.new.self.trace ≡ length before + 1)
    (λ reply accepted. ap (λ k. length k.trace) accepted.2 ∙ length_push before _) c.pass_with.ensures.ok

pub returns-clause-err : goal.returns-clause-err
returns-clause-err c = c.pass_with.ensures.err

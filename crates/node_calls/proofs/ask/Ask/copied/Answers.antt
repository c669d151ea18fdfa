use Rattle.std.proofs.Common.{◌≡◌, ◌∙◌}
use Rattle.std.proofs.lemmas.Result.{IfOk-weaker}
use Rattle.node_calls.specs.Told.{ask_told}
use Rattle.node_calls.proofs.ToldLemmas.{same_asked}
use Rattle.node_calls.proofs.ask.Ask.copied.Goals as goal

pub returns-clause-told : goal.returns-clause-told
returns-clause-told c =
    IfOk-weaker c.copied.result _ (λ copy. ask_told copy ≡ ask_told c.args.self.now)
    (λ copy told. told ∙ c.as_ref.ensures) c.copied.ensures

pub returns-clause-same : goal.returns-clause-same
returns-clause-same c =
    IfOk-weaker c.copied.result _ _
    (λ copy told. same_asked copy c.args.self.now (told ∙ c.as_ref.ensures)) c.copied.ensures

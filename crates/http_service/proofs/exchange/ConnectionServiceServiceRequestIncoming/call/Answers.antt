use Rattle.std.proofs.Common.{◌≡◌, ◌∙◌, ap, sym, rules}
use Rattle.std.proofs.lemmas.Option.{IfSome_then}
use Rattle.http_routes.specs.Asked.{asked_value}
use Rattle.http_service.specs.Exchanges.{asked_by, refusal_to}
use Rattle.http_exchange.specs.Keys.{key_need}
use Rattle.http_service.proofs.Questions.{asked_so}
use Rattle.http_service.proofs.exchange.ConnectionServiceServiceRequestIncoming.call.Goals as goal

pub returns-clause-called : goal.returns-clause-called
returns-clause-called g c =
    let service = c.args.self.now in
    let same : asked_value c.asked-asked.result ≡ asked_by service c.args.req = search rules in
    let refused : c.admission-refusal.result.refusal ≡ refusal_to service c.args.req = search rules in
    record {
      refusal = refused;
      asks = asked_so c.admission-refusal.result.refusal c.admission-refusal.result.question _ _ _ _ same
          c.admission-refusal.ensures.question;
      admitted = IfSome_then c.admission-refusal.result.question c.admission-refusal.ensures.admitted
          (λ question is. record { need = is.0 ∙ ap key_need same; let_in = sym refused ∙ is.1 });
      fields = search rules;
      told = search rules;
      body = search rules;
      kept = search rules;
    }

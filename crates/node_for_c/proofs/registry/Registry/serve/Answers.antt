use Rattle.std.proofs.Common.{◌∙◌, Bool, ap, inl, subst, sym}
use Rattle.http_routes.specs.Asked.{asked_value}
use Rattle.http_routes.specs.Replies.{ReplyValue}
use Rattle.node_for_c.specs.Serving.{IsServedAs}
use Rattle.node_for_c.specs.declared.serving.ServedReply.{ServedReply}
use Rattle.node_for_c.proofs.registry.Registry.serve.Goals as goal

pub returns : goal.returns
returns c =
    let reply = c.plain.ensures in
    let served : ServedReply = record { answered = c.answer_known-answered.result; reply = c.plain.result } in
    subst (λ (it : Bool). IsServedAs it (asked_value c.args.asked.now) c.args.body.now c.args.now served c.args.self.now
    c.take_body-body.new.self) (sym c.if-is_page.false ∙ c.is_page.ensures)
    (inl (record {
      mid = c.answer_known-answered.new.self;
      answered = c.answer_known-answered.ensures.told;
      status = ap (λ (it : ReplyValue). it.status) reply;
      reply = ap (λ (it : ReplyValue). it.body) reply
          ∙ c.take_body-body.ensures.body c.answer_known-answered.ensures.said;
      left = c.take_body-body.ensures.left;
    }))

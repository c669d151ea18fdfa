use Rattle.std.proofs.Common.{List, [], ◌∷◌, ◌++◌, ap, sym, subst₂, ◌∙◌, arith}
use Rattle.http_posts.specs.declared.answer.Posted.{Posted}
use Rattle.http_posts.specs.Posts.{Posts}
use Rattle.http_wire.proofs.wire.HttpWire.post_to.Goals as goal

pub returns-clause-posted : goal.returns-clause-posted
returns-clause-posted g c =
    let told = c.in_ok-told.ensures in
    let address = ap (λ p. p.address) (sym told.to) in
    let key = c.as_ref-key.ensures.value ∙ c.connection_to.ensures.key in
    record {
      last = c.in_ok-told.told.posted;
      more = c.add.ensures
          ∙ ap (λ (items : List Posted). items ++ c.in_ok-told.told.posted ∷ [])
          (ap (λ sent. sent.items) c.connection_to.ensures.stays.1);
      peer = told.to ∙ c.in_ok-connection.ensures.ok;
      posts = subst₂ (λ a k. Posts a k c.args.message.now c.in_ok-told.told.posted.request.value) address key told.posts;
      status = grind (arith, told.answered.status, c.taken_in.ensures.ok);
    }

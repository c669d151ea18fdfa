use Rattle.std.proofs.Common.{ap, sym, subst₂, ◌∙◌, arith}
use Rattle.http_posts.specs.Posts.{PostsHello}
use Rattle.http_wire.proofs.wire.HttpWire.ask_peer.Goals as goal

pub returns-clause-posted : goal.returns-clause-posted
returns-clause-posted g c =
    let told = c.in_ok-asked.ensures in
    let address = ap (λ p. p.address) (sym told.to) in
    record {
      last = c.in_ok-asked.asked.posted;
      more = c.add.ensures;
      peer = told.to ∙ c.in_ok-connection.ensures.ok;
      posts = subst₂ (λ a k. PostsHello a k c.args.own c.in_ok-asked.asked.posted.request.value) address
          c.as_ref-asking.ensures.value told.posts;
      status = grind (arith, told.answered.status, c.taken_in.ensures.ok);
    }

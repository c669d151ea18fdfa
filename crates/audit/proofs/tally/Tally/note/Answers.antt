use Rattle.std.proofs.Common.{◌≡◌, ℕ, ◌+◌, cond, subst}
use Rattle.std.proofs.lemmas.Result.{on_ok_weaker}
use Rattle.stamp_register.specs.declared.key.Stamp.{Stamp}
use Rattle.node_calls.specs.Asks.{answered_from}
use Rattle.node_calls.specs.Told.{ReplyTold}
use Rattle.cluster_model.specs.Histories.{acts}
use Rattle.audit.specs.Sums.{sum_of}
use Rattle.audit.proofs.NotedAll.{one_call}
use Rattle.audit.proofs.tally.Tally.note.Goals as goal

pub returns : goal.returns
returns c = on_ok_weaker c.note_act.result (λ executed k is.
    one_call c.args.self.now _ k.config.node _ _
    (c.in_ok-note_points.ensures k is) (c.in_ok-note_grant.ensures.value k is) c.in_ok-note_grant.ensures.few
    (subst (λ (r : ReplyTold). (stamp : Stamp) (term : ℕ) → sum_of c.note_act.new.executed stamp term
    ≡ sum_of c.args.self.now.executed stamp term + cond (acts stamp term (answered_from k.config.nodes r)) 1 0)
    c.reply.ensures (executed k.config.nodes))) c.note_act.ensures

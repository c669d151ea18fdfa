use Rattle.std.proofs.Common.{ap, ◌∙◌}
use Rattle.peers.specs.declared.heard.Noted.{Noted}
use Rattle.http_peers.proofs.shared.Peers.note.Goals as goal

pub invariant_of-result : goal.invariant_of-result
invariant_of-result g c =
    let noted = c.note_outcome-noted.ensures in
    record {
      shown = (ap (λ (n : Noted). n.sender) noted, ap (λ (n : Noted). n.outcome) noted ∙ c.outcome_of.ensures c.args.reply.body.items);
    }

use Rattle.std.proofs.Common.{◌++◌, ℕ, List, ap, sym, ◌∙◌}
use Rattle.gossip.specs.Attempts.{attempt_at}
use Rattle.peers.specs.declared.heard.NotedAttempt.{NotedAttempt}
use Rattle.peer_rounds.specs.Taken.{attempted}
use Rattle.peer_rounds.proofs.Attempts.{one_node}
use Rattle.peer_rounds.proofs.taken.note_attempts.Goals as goal

pub loop-node-preserved : goal.loop-node-preserved
loop-node-preserved g c =
    let f : ℕ → List NotedAttempt = λ n. attempted n (attempt_at c.args.report.now.attempts n) in
    c.note_attempt.ensures ∙ ap (λ a. c.loop-node.noted.items ++ attempted c.loop-node.node a) c.attempt.ensures
    ∙ ap (λ l. l ++ f c.loop-node.node) c.loop-node.invariant ∙ sym (one_node f c.loop-node.node)

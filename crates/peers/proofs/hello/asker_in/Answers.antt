use Rattle.std.proofs.Common.{◌∙◌, ap, sym, ℕ, List}
use Rattle.decimals.specs.Decimals.{byte_of}
use Rattle.peers.specs.Hello.{peer_in}
use Rattle.peers.proofs.Asking.{asker_in-text, asker_in-other}
use Rattle.peers.proofs.hello.asker_in.Goals as goal

pub returns-in-Ok : goal.returns-in-Ok
returns-in-Ok c =
    c.peer_in.ensures ∙ ap (peer_in c.args.cluster) c.byte.ensures
    ∙ ap (λ (text : List ℕ). peer_in c.args.cluster (byte_of text)) c.in-Ok.ensures.cases.0
    ∙ sym (asker_in-text c.args.cluster c.args.body.now c.in-Ok.ensures.cases.1)

pub returns-in-Err : goal.returns-in-Err
returns-in-Err c = asker_in-other c.args.cluster c.args.body.now c.in-Err.ensures.cases.0

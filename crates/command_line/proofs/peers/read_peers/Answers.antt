use Rattle.std.proofs.Common.{◌≡◌, ℕ, List, [], Bor, get_or, map, subst}
use Rattle.std.proofs.lemmas.List.{take_all}
use Rattle.std.proofs.lemmas.Result.{err_from_is_err_and}
use Rattle.command_line.specs.Peers.{AreNamed, IsNoPeer, IsPeerText, SaysPeer}
use Rattle.command_line.proofs.PeerLemmas.{first_bad, named_more}
use Rattle.command_line.proofs.peers.read_peers.Goals as goal

abbrev nobody : Bor (List ℕ)
nobody = record { ref_ptr = (0, 0); now = [] }

pub loop-word-init : goal.loop-word-init
loop-word-init c = rw c.new-peers.ensures.items tt

pub returns-in_err-push-in-Ok-clause-bad : goal.returns-in_err-push-in-Ok-clause-bad
returns-in_err-push-in-Ok-clause-bad c word fault e =
    let p = err_from_is_err_and c.from_residual.result c.from_residual.ensures.1 in
    cc (p.1, p.2)

pub returns-in-Err-clause-bad : goal.returns-in-Err-clause-bad
returns-in-Err-clause-bad c word fault e =
    let same : get_or c.args.words.now c.loop-word.word-index nobody ≡ word = cc in
    let why : c.in-Err.fault ≡ fault = cc in
    let told : IsNoPeer c.args.nodes (get_or c.args.words.now c.loop-word.word-index nobody).now c.in-Err.fault =
    subst (SaysPeer c.args.nodes (get_or c.args.words.now c.loop-word.word-index nobody).now) c.in-Err.is
    c.read_peer.ensures in
    rw (← same, ← why) (first_bad (λ w. w.now) c.args.nodes c.args.words.now c.loop-word.word-index nobody
    c.loop-word.peers.items
    c.in-Err.fault c.loop-word-test.true c.loop-word.invariant told)

pub loop-word-preserved : goal.loop-word-preserved
loop-word-preserved c =
    let named : IsPeerText c.args.nodes (get_or c.args.words.now c.loop-word.word-index nobody).now c.in-Ok.peer =
    subst (SaysPeer c.args.nodes (get_or c.args.words.now c.loop-word.word-index nobody).now) c.in-Ok.is
    c.read_peer.ensures in
    rw c.in_ok-push-in-Ok.ensures.items (named_more c.args.nodes c.args.words.now c.loop-word.word-index nobody
    c.loop-word.peers.items c.in-Ok.peer c.loop-word-test.true c.loop-word.invariant named)

pub returns-clause-ok : goal.returns-clause-ok
returns-clause-ok c =
    subst (λ words. AreNamed c.args.nodes (map (λ w. w.now) words) c.loop-word.peers.items)
    (take_all c.loop-word.word-index c.args.words.now c.loop-word-test.false) c.loop-word.invariant

pub returns-clause-bad : goal.returns-clause-bad
returns-clause-bad c word fault e = cc

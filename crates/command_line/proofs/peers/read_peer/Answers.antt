use Rattle.std.proofs.Common.{rules, ◌≡◌, ◌≤◌, true, Some, Err, inl, inr, refl, subst}
use Rattle.std.proofs.lemmas.Result.{err_from_is_err_and}
use Rattle.command_line.specs.Peers.{IsPlaceText, SaysPlace, has_colon, node_of, place_of}
use Rattle.command_line.proofs.peers.read_peer.Goals as goal

pub returns-in_err-address : goal.returns-in_err-address
returns-in_err-address c =
    let p = err_from_is_err_and c.from_residual-in_err-address.result c.from_residual-in_err-address.ensures.1 in
    let colon : has_colon c.args.word.now ≡ true = search rules in
    let node : node_of c.args.word.now ≡ Some c.in_ok-node-2.node = search rules in
    let behind : c.in_ok-node.place.now ≡ place_of c.args.word.now = search rules in
    let said : SaysPlace c.in_ok-node.place.now (Err c.in_err-address.field-0.0) = c.in_err-address.ensures in
    let place : SaysPlace (place_of c.args.word.now) (Err c.in_err-address.field-0.0) =
    subst (λ text. SaysPlace text (Err c.in_err-address.field-0.0)) behind said in
    rw (p.1, p.2)
    (inr (inr (inl (record { colon = colon; number = c.in_ok-node-2.node; node = node; place = place }))))

pub returns-else-node-nodes : goal.returns-else-node-nodes
returns-else-node-nodes c =
    let colon : has_colon c.args.word.now ≡ true = search rules in
    let node : node_of c.args.word.now ≡ Some c.in_ok-node-2.node = search rules in
    let above : c.args.nodes ≤ c.in_ok-node-2.node = search rules in
    let place : IsPlaceText (place_of c.args.word.now) c.in_ok-address.address = search rules in
    inr (inr (inr (
      refl,
      record {
        colon = colon;
        number = c.in_ok-node-2.node;
        node = node;
        above = above;
        address = c.in_ok-address.address;
        place = place;
      },
    )))

pub returns-in_err-node : goal.returns-in_err-node
returns-in_err-node c = search rules

pub returns-in_err-node-2 : goal.returns-in_err-node-2
returns-in_err-node-2 c = search rules

pub returns-then-node-nodes : goal.returns-then-node-nodes
returns-then-node-nodes c = record {
  colon = search rules;
  node = search rules;
  below = c.if-node-nodes.true;
  place = search rules;
}

use Rattle.std.proofs.Common.{◌≡◌, ℕ, List, ap, subst, sym, inr, ◌∙◌}
use Rattle.node_steps.specs.declared.config.Config.{Config}
use Rattle.node_sharing.specs.Made.{IsStopped}
use Rattle.node_sharing.specs.Spread.{LacksRoom, most_calls, spread_due}
use Rattle.node_sharing.proofs.spreading.set_spread.Goals as goal

pub returns-clause-refused : goal.returns-clause-refused
returns-clause-refused c =
    let k = c.args.node.now in
    let set = c.set.new.self in
    let most : most_calls k.config.nodes ≡ c.most_calls.result =
    ap (λ (d : Config). most_calls d.nodes) (sym c.config.ensures) ∙ sym c.most_calls.ensures in
    inr (record {
      room = λ lacks. (let told = c.lacks_room.ensures.1 (subst (λ (n : ℕ). LacksRoom k n) most lacks) in
          let is_not = c.if-lacks_room.false in
          cc);
      set = set;
      stamp = c.in_ok-stamp.stamp;
      accepted = c.in_ok-stamp.ensures.ok;
      stopped = subst (λ (n : List ℕ). IsStopped set (spread_due set n) c.deal.new.node c.in-Err.fault)
          c.in_ok-point.ensures.ok c.in-Err.ensures.refused;
    })

use Rattle.std.proofs.Common.{◌∙◌}
use Rattle.counters.proofs.Known.{marked-longer}
use Rattle.counters.proofs.balances.Balances.make_place.Goals as goal

pub invariant_of-self : goal.invariant_of-self
invariant_of-self c =
    let old = c.self.inside.by_node.items in
    let longer = c.make_place.ensures.longer in
    record {
      few = c.make_place.ensures.few;
      marked = marked-longer c.self.inside.are_short old c.make_place.new.balances.items c.self.invariant.marked longer;
      one = longer.each c.self.inside.known.place ∙ c.self.invariant.one;
    }

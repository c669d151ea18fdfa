use Rattle.std.specs.Prelude.{◌≡◌, ◌<◌, ◌^◌, ◌==◌, cond}
use Rattle.std.proofs.Common.{arith, sym, ◌∙◌}
use Rattle.std.proofs.lemmas.Int.{ints}
use Rattle.counters.specs.Cells.{balance_of}
use Rattle.counters.proofs.CellLemmas.{chosen-other, chosen-same}
use Rattle.counters.proofs.Columns.{rights-balance}
use Rattle.counters.proofs.budget.Budget.rights.Goals.{then-node-setter, else-node-setter}
use Rattle.counters.proofs.budget.Budget.rights.Goals as goal

pub returns : goal.returns
returns c =
    let node = c.args.node in
    let own : c.if-node-setter.own ≡ cond (node == c.args.setter) c.args.count 0 = elim c.if-node-setter.branch [
      | then-node-setter w ↦ w.own-is ∙ sym (chosen-same node c.args.setter c.args.count 0 w.if-node-setter.true)
      | else-node-setter w ↦ w.own-is ∙ sym (chosen-other node c.args.setter c.args.count 0 w.if-node-setter.false)
    ] in
    let fits : c.if-node-setter.own < 2 ^ 64 = elim c.if-node-setter.branch
    [ then-node-setter w ↦ omega arith | else-node-setter w ↦ omega arith ] in
    let is : c.balance.result ≡ balance_of c.args.self.now node = rw (← c.self.view_is) c.balance.ensures.balance in
    let small = c.balance.ensures.small in
    let low = small.0 in
    let high = small.1 in
    let all = rights-balance c.args.self.now c.args.setter c.args.count node (omega arith) in
    let more = c.from.ensures in
    omega (arith, ints)

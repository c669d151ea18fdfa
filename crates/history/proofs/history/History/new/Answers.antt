use Rattle.std.proofs.Common.{List, length, ap, sym, arith}
use Rattle.node_calls.specs.Told.{Told}
use Rattle.history.proofs.Lemmas.{none_told, told_none}
use Rattle.history.proofs.history.History.new.Goals as goal

pub invariant_of-result : goal.invariant_of-result
invariant_of-result c =
    let none = ap length (told_none c.new-2.result.items c.new.result.calls c.new-2.ensures c.new.ensures.calls) in
    (sym (ap length (none_told c.new-2.result.items c.new-2.ensures)), omega (arith, none))

pub returns : goal.returns
returns c =
    ap (λ (all : List Told). record { all = all; from = 0 })
    (told_none c.new-2.result.items c.new.result.calls c.new-2.ensures c.new.ensures.calls)

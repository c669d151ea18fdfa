use Rattle.std.proofs.Common.{sym, ap, length, arith}
use Rattle.std.proofs.lemmas.Map.Entries.{length-keys_of}
use Rattle.op_set.specs.Shown.{shown}
use Rattle.op_set.specs.SetOrder.{state_of}
use Rattle.op_set.proofs.Shown.{names_kept, names_added}
use Rattle.op_set.proofs.set.OpSetReplica.names_with.Goals as goal

pub returns-in-Some : goal.returns-in-Some
unfolding state_of shown
returns-in-Some c =
    let e = ap length (names_kept c.args.self.now.points c.args.name.now c.in-Some.field-0.now c.len-len.ensures.ordered
    (sym c.in-Some.ensures.value)) in
    let l = length-keys_of c.args.self.now.points in
    let n = c.len-len.ensures.len in
    (omega (arith, e, l, n))

pub returns-in-None : goal.returns-in-None
unfolding state_of shown
returns-in-None c =
    let e = names_added c.args.self.now.points c.args.name.now (sym c.in-None.ensures.value) in
    let l = length-keys_of c.args.self.now.points in
    let n = c.len-len.ensures.len in
    (omega (arith, e, l, n))

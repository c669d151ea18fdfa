use Rattle.std.proofs.Common.{List, [], ◌∷◌, ◌++◌, take, ap, subst, sym, ◌∙◌, arith}
use Rattle.std.proofs.lemmas.List.{take_more}
use Rattle.sharing.specs.declared.shift.Shift.{Shift}
use Rattle.node_sharing.specs.Made.{AreMade}
use Rattle.node_sharing.proofs.MoreMade.{one_more}
use Rattle.node_sharing.proofs.round.make_all.Goals as goal

pub loop-shift-preserved : goal.loop-shift-preserved
loop-shift-preserved c =
    let shifts = c.args.shifts.now in
    let index = c.loop-shift.shift-index in
    let item = c.shift-item.result in
    let more = take_more shifts index item (omega arith) ∙ ap (λ s. take index shifts ++ s ∷ []) (sym c.shift-item.is) in
    let P : List Shift → Type 0 = λ made. AreMade c.args.node.now made c.make.new.node in
    subst P (sym more)
    (one_more c.args.node.now c.loop-shift.node c.make.new.node (take index shifts) item c.loop-shift.invariant
    c.in_ok-make.ensures.ok.0 c.in_ok-make.ensures.ok.1)

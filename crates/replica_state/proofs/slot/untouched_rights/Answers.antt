use Rattle.std.proofs.Common.{◌≡◌, length, replicate, set, ap, arith, rules, ◌∙◌}
use Rattle.std.specs.Prelude.{pos}
use Rattle.std.proofs.lemmas.Int.{to_z-of_z}
use mir.Syntax.{w128}
use mir.Val.{of_z, to_z}
use Rattle.replica_state.proofs.Columns.{whole_at, whole_nowhere}
use Rattle.replica_state.proofs.slot.untouched_rights.Goals as goal

pub returns-then-place-into : goal.returns-then-place-into
returns-then-place-into c =
    let n = length c.args.into.now in
    let zeros : c.fill.new.self ≡ replicate n (pos 0) = search rules in
    let x = to_z w128 (of_z w128 c.from.result) in
    let written : x ≡ pos c.args.count =
    to_z-of_z w128 c.from.result (record { sfits = c.from.type_inv }) ∙ c.from.ensures in
    let long = c.fill.ensures.len in
    ap (λ xs. set xs c.from-place.result x) zeros
    ∙ ap (λ place. set (replicate n (pos 0)) place x) c.from-place.ensures
    ∙ ap (λ amount. set (replicate n (pos 0)) c.args.setter amount) written
    ∙ whole_at n c.args.setter c.args.count (omega (arith, long, c.if-place-into.true, c.from-place.ensures))

pub returns-else-place-into : goal.returns-else-place-into
returns-else-place-into c =
    let n = length c.args.into.now in
    let zeros : c.fill.new.self ≡ replicate n (pos 0) = search rules in
    let long = c.fill.ensures.len in
    zeros ∙ whole_nowhere n c.args.setter c.args.count (omega (arith, long, c.if-place-into.false, c.from-place.ensures))

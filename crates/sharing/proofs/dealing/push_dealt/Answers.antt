use Rattle.std.proofs.Common.{◌≡◌, ◌++◌, ℕ, List, ap, sym, ◌∙◌, arith}
use Rattle.std.specs.List.{flat_map, range_with_len}
use Rattle.std.proofs.lemmas.Int.{to_z-of_z}
use mir.Syntax.{w128}
use Rattle.sharing.specs.declared.shift.Shift.{Shift}
use Rattle.sharing.specs.Memory.{patience}
use Rattle.sharing.specs.Shares.{spare_of}
use Rattle.sharing.specs.Spreads.{shift_behind, term_dealt}
use Rattle.sharing.proofs.Walks.{added, flat_of_next}
use Rattle.sharing.proofs.dealing.push_dealt.Goals as goal

pub loop-place-preserved : goal.loop-place-preserved
loop-place-preserved g c =
    let shifts : ℕ → List Shift =
    shift_behind c.args.name.now c.args.term c.spare-rights.result c.args.node c.args.nodes in
    added c.args.shifts.now.items (flat_map shifts (range_with_len 0 c.loop-place.place)) (shifts c.loop-place.place)
    c.in_ok-push_share.ensures c.loop-place.invariant (sym (flat_of_next shifts c.loop-place.place))

pub returns : goal.returns
unfolding term_dealt
returns g c =
    let shifts : ℕ → ℕ → List Shift =
    λ rights. shift_behind c.args.name.now c.args.term rights c.args.node c.args.nodes in
    let end : c.loop-place.place ≡ c.args.nodes = omega (arith, c.loop-place-test.false, c.loop-place.auto.place-end) in
    c.loop-place.invariant
    ∙ ap (λ n. c.args.shifts.now.items ++ flat_map (shifts c.spare-rights.result) (range_with_len 0 n)) end
    ∙ ap (λ rights. c.args.shifts.now.items ++ flat_map (shifts rights) (range_with_len 0 c.args.nodes))
    (c.spare-rights.ensures ∙ ap (λ r. spare_of r patience)
    (to_z-of_z w128 c.rights.result (record { sfits = c.rights.type_inv }) ∙ c.rights.ensures))

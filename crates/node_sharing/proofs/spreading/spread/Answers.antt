use Rattle.std.proofs.Common.{◌≡◌, ℕ, List, length, ap, subst, sym, inr, ◌∙◌, arith}
use Rattle.sharing.specs.declared.shift.Shift.{Shift}
use Rattle.node_sharing.specs.Made.{IsStopped}
use Rattle.node_sharing.specs.Spread.{LacksRoom, spread_due}
use Rattle.node_sharing.proofs.spreading.spread.Goals as goal

pub returns-clause-refused : goal.returns-clause-refused
returns-clause-refused c =
    let k = c.args.node.now in
    let due : List Shift = spread_due k c.args.name.now in
    let items : c.in_ok-shifts.shifts.items ≡ due =
    c.in_ok-shifts.ensures ∙ ap (spread_due k) c.in_ok-name.ensures.ok in
    let shown = ap length (c.deref.ensures.value ∙ items) in
    let many : length due ≡ c.len.result = omega (arith, shown, c.deref.ensures.len, c.len.ensures) in
    inr (
      λ lacks. (let told = c.lacks_room.ensures.1 (subst (λ (n : ℕ). LacksRoom k n) many lacks) in
          let is_not = c.if-lacks_room.false in
          cc),
      subst (λ (s : List Shift). IsStopped k s c.make_all.new.node c.in-Err.fault) (c.deref.ensures.value ∙ items)
          c.in-Err.ensures.refused,
    )

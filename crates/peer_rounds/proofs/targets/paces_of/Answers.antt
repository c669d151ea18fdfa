use Rattle.std.proofs.Common.{◌≡◌, ap, sym, ◌∙◌, length, true, false, arith}
use Rattle.std.proofs.lemmas.Grind.{common_steps}
use Rattle.peer_rounds.specs.Rounds.{is_told}
use Rattle.peer_rounds.proofs.RoundLemmas.{few_below, no_more_told, one_more_told}
use Rattle.peer_rounds.proofs.targets.paces_of.Goals as goal
use Rattle.peer_rounds.proofs.targets.paces_of.Goals.{then-is_told+in_ok-push, else-is_told}

pub loop-other-preserved : goal.loop-other-preserved
loop-other-preserved c = elim c.if-is_told.branch [
  | then-is_told+in_ok-push w ↦
      let is : is_told c.args.node c.args.named.now c.loop-other.other ≡ true =
      sym c.is_told.ensures ∙ w.if-is_told.true in
      let more = one_more_told c.args.node c.loop-other.other c.args.named.now is in
      rw w.paces-is (grind (arith, common_steps, more))
  | else-is_told w ↦
      let is : is_told c.args.node c.args.named.now c.loop-other.other ≡ false =
      sym c.is_told.ensures ∙ w.if-is_told.false in
      rw w.paces-is (c.loop-other.invariant ∙ sym (no_more_told c.args.node c.loop-other.other c.args.named.now is))
]

pub returns-clause-few : goal.returns-clause-few
returns-clause-few c =
    let all : c.loop-other.other ≡ c.args.nodes = omega (arith, c.loop-other-test.false, c.loop-other.auto.other-end) in
    let told = ap length c.loop-other.invariant in
    let few = few_below c.args.node c.loop-other.other c.args.named.now in
    omega (arith, all, told, few)

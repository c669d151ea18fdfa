use Rattle.std.proofs.Common.{◌≡◌, ◌++◌, arith, subst}
use Rattle.std.specs.List.{flat_map, range_with_len}
use Rattle.node_calls.specs.FaultCodes.{codes_end}
use Rattle.thread_warnings.specs.RefusedCalls.{code_said, refused_lines}
use Rattle.thread_warnings.proofs.ShortStarts.{one_node}
use Rattle.thread_warnings.proofs.refused.say_refused.Goals as goal

pub loop-code-preserved : goal.loop-code-preserved
loop-code-preserved c = record {
  said = one_node (code_said c.args.refused.now) c.loop-code.code _ _ _ c.loop-code.invariant.said
      (rw c.in_ok-say_code.was at c.say_code.ensures);
}

pub returns : goal.returns
unfolding refused_lines
returns c =
    let all : c.loop-code.code ≡ codes_end = omega (arith, c.loop-code-test.false, c.loop-code.auto.code-end) in
    subst (λ n. c.loop-code.said ≡ c.args.said.now ++ flat_map (code_said c.args.refused.now)
    (range_with_len 0 n)) all c.loop-code.invariant.said

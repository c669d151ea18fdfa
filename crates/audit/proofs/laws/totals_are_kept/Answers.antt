use Rattle.std.proofs.Common.{◌≡◌, ◌+◌, ◌≤◌, ap, arith}
use Rattle.cluster_model.specs.Histories.{all_granted, all_executions}
use Rattle.stamp_register.specs.Keys.{stamp_of}
use Rattle.audit.proofs.laws.totals_are_kept.Goals as goal

pub returns : goal.returns
returns c0 c es totals escrow made place t there =
    let is = made.each place t there in
    let most : all_executions c es (stamp_of is.key) t.term ≤ t.count + all_granted c es t.name is.key t.term =
    (escrow t.name is.key t.term t.count is.issued is.counted).at_most in
    let same : all_executions c es (stamp_of is.key) t.term ≡ all_executions c es t.stamp t.term =
    ap (λ s. all_executions c es s t.term) is.stamped in
    omega (arith, most, same, is.granted, is.executed)

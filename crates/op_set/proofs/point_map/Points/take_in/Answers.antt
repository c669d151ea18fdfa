use Rattle.std.proofs.Common.{ap, ◌∙◌, sym}
use Rattle.std.proofs.lemmas.Map.Keys.{sorted_tail}
use Rattle.std.specs.Map.{keys_of}
use Rattle.std.specs.Ordering.{nat_cmp}
use Rattle.std.specs.Cmp.Lexicographic.{slice_cmp}
use Rattle.replica_state.specs.States.{State}
use Rattle.op_set.specs.Shown.{shown}
use Rattle.replica_state.specs.Unions.{union_of}
use Rattle.op_set.proofs.SetJoins.{unites-none, unites-point}
use Rattle.op_set.proofs.point_map.Points.take_in.Goals as goal

pub loop-name-preserved : goal.loop-name-preserved
loop-name-preserved c =
    let before = rw c.in-Some.ensures.steps at c.loop-name.invariant in
    record {
      sorted = sorted_tail (slice_cmp nat_cmp) c.in-Some.name.now (keys_of c.next.new.self) before.sorted;
      same = ap (λ (v : State). union_of v (shown c.next.new.self)) c.in_ok-take_point.ensures ∙
          sym (unites-point c.in-Some.name.now c.in-Some.point.now c.next.new.self before.sorted
          (shown c.loop-name.self)) ∙ before.same;
    }

pub returns : goal.returns
returns c =
    let before = rw c.in-None.ensures.steps.0 at c.loop-name.invariant in
    sym (unites-none (shown c.loop-name.self)) ∙ before.same

use Rattle.std.proofs.Common.{◌≡◌, ◌+◌, ◌-◌, ◌++◌, ◌∷◌, [], length, take, sym, ◌∙◌, ap, subst, arith, Some, List, ℕ}
use Rattle.actions.specs.Value.{TermValue}
use Rattle.actions.specs.Canonical.{canonical}
use Rattle.stamp_register.specs.Keys.{KeyValue}
use Rattle.operations.specs.Operations.{Operation, Set}
use Rattle.node_steps.specs.Settings.{new_key, operations_issued, settings_of}
use Rattle.audit.specs.Counts.{AddsKeys}
use Rattle.audit.proofs.CountsKept.{adds_behind, issued_one_more}
use Rattle.audit.proofs.counts.Counts.add_points.Goals as goal

pub loop-name-preserved : goal.loop-name-preserved
loop-name-preserved c =
    let was = c.loop-name.invariant.clock in
    let node : c.loop-name.stamp.node ≡ c.args.last.node = c.loop-name.invariant.node in
    let before : ℕ = c.args.last.clock - length c.args.points.now in
    let point : List ℕ × List TermValue = c.loop-name-item.result in
    let clock : before + c.loop-name.name-index + 1 ≡ c.loop-name.stamp.clock + 1 = omega (arith, was) in
    let key : KeyValue = new_key c.args.last.node (before + c.loop-name.name-index) (Some (canonical point.1)) in
    let first : List Operation = operations_issued c.args.last.node before
    (settings_of (take c.loop-name.name-index c.args.points.now)) in
    let more : operations_issued c.args.last.node before (settings_of
    (take (c.loop-name.name-index + 1) c.args.points.now)) ≡ first ++ Set point.0 key ∷ [] =
    issued_one_more c.args.last.node before c.args.points.now c.loop-name.name-index point c.loop-name-test.true
    ∙ ap (λ (p : List ℕ × List TermValue). first ++ Set p.0 (new_key c.args.last.node (before + c.loop-name.name-index)
    (Some (canonical p.1))) ∷ []) (sym c.loop-name-item.is) in
    record {
      clock = omega (arith, was);
      node = node;
      keys = subst (λ ops. AddsKeys c.args.self.now c.add_key.new.self ops) (sym more)
          (adds_behind c.args.self.now c.loop-name.self c.add_key.new.self first (Set point.0 key ∷ [])
          c.loop-name.invariant.keys
          (c.in_ok-add_key.ensures key (λ i. record { clock = clock i; node = sym node i })
          (λ i. Some (canonical point.1))));
    }

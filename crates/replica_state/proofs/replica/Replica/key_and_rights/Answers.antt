use Rattle.std.proofs.Common.{refl, arith, rules}
use Rattle.stamp_register.specs.Keys.{key_value}
use Rattle.replica_state.proofs.Marks.{none_marked, one_more, all_marked, no_rights}
use Rattle.replica_state.proofs.replica.Replica.key_and_rights.Goals as goal

pub loop-term-init : goal.loop-term-init
loop-term-init g c = none_marked _ _ refl refl

pub loop-term-preserved : goal.loop-term-preserved
loop-term-preserved g c = one_more _ _ _ _ (let few = c.terms_of-term-end.ensures.few in omega arith) (search rules)
    c.loop-term.invariant

pub returns-clause-rights : goal.returns-clause-rights
returns-clause-rights g c = all_marked _ _ _ c.loop-term.invariant
    (λ j past. no_rights (g.Self.Replica.state c.args.self.now) c.args.name.now (key_value c.in_ok-key.key.now) j
    c.args.node (search rules) (c.terms_of-term-end.ensures.no_more j (omega arith)))

use Rattle.std.proofs.Common.{◌≡◌, ◌≤◌, length, ◌+◌, sym, ◌∙◌, subst, arith, Some, None}
use Rattle.operations.specs.Operations.{count_of}
use Rattle.audit.specs.declared.counts.Counts.{Counts}
use Rattle.audit.proofs.CountsKept.{AreCountsUpto, upto_none, upto_more, upto_same, key_added}
use Rattle.audit.proofs.counts.Counts.add_key.Goals as goal
use Rattle.audit.proofs.counts.Counts.add_key.Goals.{in-Some+in_ok-copied+in_ok-put, in_default}

pub loop-term-init : goal.loop-term-init
loop-term-init c = λ key stamped body ops are. upto_none c.args.self.now ops c.args.name.now key are

pub loop-term-preserved : goal.loop-term-preserved
loop-term-preserved c = λ key stamped body ops are.
    let before = c.loop-term.invariant key stamped body ops are in
    elim c.match-count_of.branch [
      | in-Some+in_ok-copied+in_ok-put w ↦
          let counted : count_of key c.loop-term.term ≡ Some w.in-Some.count = sym (c.count_of.ensures key body) ∙
          w.in-Some.is in
          let name : w.in_ok-copied.field-0 ≡ c.args.name.now = w.in_ok-copied.ensures in
          subst (λ (t : Counts). AreCountsUpto t ops c.args.name.now key (c.loop-term.term + 1)) (sym w.self-is)
          (subst (λ n. AreCountsUpto w.put.new.self ops n key (c.loop-term.term + 1)) name
          (upto_more w.in_ok-copied.field-0 key c.args.stamp c.loop-term.term w.in-Some.count c.loop-term.self
          w.put.new.self stamped counted w.in_ok-put.ensures ops
          (subst (λ n. AreCountsUpto c.loop-term.self ops n key c.loop-term.term) (sym name) before)))
      | in_default w ↦
          let none : count_of key c.loop-term.term ≡ None = sym (c.count_of.ensures key body) ∙ w.in_default.is in
          subst (λ (t : Counts). AreCountsUpto t ops c.args.name.now key (c.loop-term.term + 1)) (sym w.self-is)
          (upto_same c.loop-term.self ops c.args.name.now key c.loop-term.term none before)
    ]

pub returns : goal.returns
returns c = λ key stamped body ops are.
    let many : length c.args.actions.now ≤ c.loop-term.term =
    omega (arith, c.loop-term-test.false, c.len-term-end.ensures.value) in
    key_added c.loop-term.self ops c.args.name.now key c.args.actions.now c.loop-term.term body c.is_spelled.ensures
    many (c.loop-term.invariant key stamped body ops are)

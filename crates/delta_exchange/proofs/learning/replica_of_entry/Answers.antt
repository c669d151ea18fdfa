use Rattle.std.proofs.Common.{ℕ, [], refl, ap, ◌∙◌}
use Rattle.std.proofs.lemmas.List.{append-nil}
use Rattle.stamp_register.specs.Keys.{key_value}
use Rattle.operations.specs.Operations.{Count, Hits, Execs, Shifts}
use Rattle.replica_state.specs.Folds.{fold}
use Rattle.message_format.specs.Messages.{entry_value, operations_of}
use Rattle.delta_exchange.proofs.KeysLearned.{nothing_held, has_now, has_still, by_its_key}
use Rattle.delta_exchange.proofs.ToldSteps.{learned_entry}
use Rattle.delta_exchange.proofs.learning.replica_of_entry.Goals as goal

pub learn_hits-requires-clause-keyed : goal.learn_hits-requires-clause-keyed
learn_hits-requires-clause-keyed g c =
    let e = c.args.entry.now in
    let state = g.R.Replica.state in
    has_now (state c.empty-replica.result) (state c.learn.new.self) e.name (key_value e.key)
    (nothing_held e.name (state c.empty-replica.result) c.empty-replica.ensures) c.in_ok-learn.ensures.ok

pub learn_execs-requires-clause-keyed : goal.learn_execs-requires-clause-keyed
learn_execs-requires-clause-keyed g c =
    let e = c.args.entry.now in
    let state = g.R.Replica.state in
    let keyed = has_now (state c.empty-replica.result) (state c.learn.new.self) e.name (key_value e.key)
    (nothing_held e.name (state c.empty-replica.result) c.empty-replica.ensures) c.in_ok-learn.ensures.ok in
    has_still (λ (x : ℕ × ℕ). Count (Hits e.name x.0) x.1) e.name (key_value e.key) (λ x. refl) (state c.learn.new.self)
    (state c.learn_hits.new.replica) e.hits.items keyed c.in_ok-learn_hits.ensures

pub learn_shifts-requires-clause-keyed : goal.learn_shifts-requires-clause-keyed
learn_shifts-requires-clause-keyed g c =
    let e = c.args.entry.now in
    let state = g.R.Replica.state in
    let keyed = has_now (state c.empty-replica.result) (state c.learn.new.self) e.name (key_value e.key)
    (nothing_held e.name (state c.empty-replica.result) c.empty-replica.ensures) c.in_ok-learn.ensures.ok in
    let hit = has_still (λ (x : ℕ × ℕ). Count (Hits e.name x.0) x.1) e.name (key_value e.key) (λ x. refl)
    (state c.learn.new.self) (state c.learn_hits.new.replica) e.hits.items keyed c.in_ok-learn_hits.ensures in
    has_still (λ (x : ℕ × ℕ × ℕ). Count (Execs e.name (key_value e.key) x.0 x.1) x.2) e.name (key_value e.key)
    (λ x. by_its_key e.name (key_value e.key)) (state c.learn_hits.new.replica) (state c.learn_execs.new.replica)
    e.execs.items hit c.in_ok-learn_execs.ensures

pub learn_grants-requires-clause-keyed : goal.learn_grants-requires-clause-keyed
learn_grants-requires-clause-keyed g c =
    let e = c.args.entry.now in
    let key = key_value e.key in
    let state = g.R.Replica.state in
    let keyed = has_now (state c.empty-replica.result) (state c.learn.new.self) e.name key
    (nothing_held e.name (state c.empty-replica.result) c.empty-replica.ensures) c.in_ok-learn.ensures.ok in
    let hit = has_still (λ (x : ℕ × ℕ). Count (Hits e.name x.0) x.1) e.name key (λ x. refl) (state c.learn.new.self)
    (state c.learn_hits.new.replica) e.hits.items keyed c.in_ok-learn_hits.ensures in
    let executed = has_still (λ (x : ℕ × ℕ × ℕ). Count (Execs e.name key x.0 x.1) x.2) e.name key
    (λ x. by_its_key e.name key) (state c.learn_hits.new.replica) (state c.learn_execs.new.replica) e.execs.items
    hit c.in_ok-learn_execs.ensures in
    has_still (λ (x : ℕ × ℕ × ℕ × ℕ). Count (Shifts e.name key x.0 x.1 x.2) x.3) e.name key (λ x. by_its_key e.name key)
    (state c.learn_execs.new.replica) (state c.learn_shifts.new.replica) e.shifts.items executed
    c.in_ok-learn_shifts.ensures

pub returns : goal.returns
returns g c =
    let state = g.R.Replica.state in
    let e = entry_value c.args.entry.now in
    let all = learned_entry e (state c.empty-replica.result) (state c.learn.new.self) (state c.learn_hits.new.replica)
    (state c.learn_execs.new.replica) (state c.learn_shifts.new.replica) (state c.learn_grants.new.replica)
    c.in_ok-learn.ensures.ok c.in_ok-learn_hits.ensures c.in_ok-learn_execs.ensures c.in_ok-learn_shifts.ensures
    c.in_ok-learn_grants.ensures in
    all [] c.empty-replica.ensures ∙ ap fold (append-nil (operations_of e))

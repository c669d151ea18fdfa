use Rattle.std.proofs.Common.{◌+◌, ◌≡◌, sym, refl, ◌∙◌, subst, arith}
use Rattle.stamp_register.specs.Keys.{key_value}
use Rattle.replica_state.specs.States.{State, with_key}
use Rattle.delta_exchange.specs.Changes.{ChangesAt}
use Rattle.delta_exchange.specs.Marks.{MarksValue, marks_value, last_changes, with_new_key, AreUpto}
use Rattle.delta_exchange.specs.Versions.{value_of}
use Rattle.delta_exchange.proofs.ChangeLemmas.{upto_new_key, changes_new_key}
use Rattle.delta_exchange.proofs.InPlace.{key_tells}
use Rattle.delta_exchange.proofs.versioned.Versioned.set_key.Goals as goal

pub invariant_of-self-2 : goal.invariant_of-self-2
invariant_of-self-2 g c =
    let version = c.args.self.now.version + 1 in
    let m = marks_value c.args.self.now.marks in
    let one : marks_value c.renew.new.self ≡ with_new_key c.args.name version m = c.renew.ensures ∙
    (λ i. with_new_key (c.in_ok-marked.ensures i) version (c.in_ok-make_room.ensures.same i)) in
    record {
      upto = subst (λ (n : MarksValue). AreUpto n version) (sym one)
          (upto_new_key m c.args.name c.args.self.now.version version (omega arith) c.args.self.now.upto);
    }

pub returns-clause-ok : goal.returns-clause-ok
unfolding value_of
returns-clause-ok g c =
    let state = g.R.Replica.state in
    let version = c.args.self.now.version + 1 in
    let m = marks_value c.args.self.now.marks in
    let name = c.args.name in
    let key = key_value c.args.key in
    let one : marks_value c.renew.new.self ≡ with_new_key name version m = c.renew.ensures ∙
    (λ i. with_new_key (c.in_ok-marked.ensures i) version (c.in_ok-make_room.ensures.same i)) in
    let v = state c.args.self.now.replica in
    let w = with_key name key v in
    let changed = changes_new_key m name c.args.self.now.version version (omega arith) c.args.self.now.upto v w
    (key_tells name key v c.requires.above) in
    record {
      state_is = c.in_ok-set_key.ensures.ok;
      version = refl;
      known = refl;
      acked = refl;
      last = subst (λ (n : MarksValue). ChangesAt v (state c.set_key.new.self) version (last_changes m)
          (last_changes n)) (sym one)
          (subst (λ (x : State). ChangesAt v x version (last_changes m) (last_changes (with_new_key name version m)))
          (sym c.in_ok-set_key.ensures.ok) changed);
    }

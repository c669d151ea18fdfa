use Rattle.std.proofs.Common.{false, ◌+◌, cond, Some, Option, option_map, ap, sym, refl, ◌∙◌, subst, arith}
use Rattle.replica_state.specs.States.{State, with_pass}
use Rattle.operations.specs.declared.counted.Counted.{Counted}
use Rattle.operations.specs.declared.counted.Counted.TheVariants.{Hits, Execs}
use Rattle.replica_state.proofs.Learned.{always_err}
use Rattle.delta_exchange.specs.Changes.{ChangesAt}
use Rattle.delta_exchange.specs.Marks.{MarksValue, marks_value, last_changes, with_mark, is_of, AreUpto}
use Rattle.delta_exchange.specs.Versions.{value_of, version_of}
use Rattle.delta_exchange.proofs.MarkLemmas.{lent_same, lent_marked}
use Rattle.delta_exchange.proofs.ChangeLemmas.{upto_marked, changes_marked_twice}
use Rattle.delta_exchange.proofs.InPlace.{pass_tells, counts}
use Rattle.delta_exchange.proofs.versioned.Versioned.count_pass.Goals as goal

pub invariant_of-self-in-Break-1 : goal.invariant_of-self-in-Break-1
invariant_of-self-in-Break-1 g c =
    let same = lent_same c.args.self.now.marks c.get_mut.follows.lender c.args.name.now c.in-Some.marks.now
    c.make_pass_room.new.self c.get_mut.follows.holds (sym c.in-Some.ensures.value) c.make_pass_room.ensures.latest
    c.make_pass_room.ensures.key c.make_pass_room.ensures.cells in
    record { upto = subst (λ (n : MarksValue). AreUpto n c.args.self.now.version) (sym same) c.args.self.now.upto }

pub returns-in_err-make_pass_room-clause-err : goal.returns-in_err-make_pass_room-clause-err
unfolding value_of
returns-in_err-make_pass_room-clause-err g c =
    let same = lent_same c.args.self.now.marks c.get_mut.follows.lender c.args.name.now c.in-Some.marks.now
    c.make_pass_room.new.self c.get_mut.follows.holds (sym c.in-Some.ensures.value) c.make_pass_room.ensures.latest
    c.make_pass_room.ensures.key c.make_pass_room.ensures.cells in
    let self = c.args.self.now in
    always_err c.from_residual.result (λ i. record {
      state = g.R.Replica.state self.replica;
      version = self.version;
      known = version_of self.known;
      acked = version_of self.acked;
      last = last_changes (same i);
    })

pub invariant_of-self-in-Break-branch-2 : goal.invariant_of-self-in-Break-branch-2
invariant_of-self-in-Break-branch-2 g c =
    let same = lent_same c.args.self.now.marks c.get_mut.follows.lender c.args.name.now c.in-Some.marks.now
    c.make_pass_room.new.self c.get_mut.follows.holds (sym c.in-Some.ensures.value) c.make_pass_room.ensures.latest
    c.make_pass_room.ensures.key c.make_pass_room.ensures.cells in
    record { upto = subst (λ (n : MarksValue). AreUpto n c.args.self.now.version) (sym same) c.args.self.now.upto }

pub returns-in_err-count_pass-clause-err : goal.returns-in_err-count_pass-clause-err
unfolding value_of
returns-in_err-count_pass-clause-err g c =
    let same = lent_same c.args.self.now.marks c.get_mut.follows.lender c.args.name.now c.in-Some.marks.now
    c.make_pass_room.new.self c.get_mut.follows.holds (sym c.in-Some.ensures.value) c.make_pass_room.ensures.latest
    c.make_pass_room.ensures.key c.make_pass_room.ensures.cells in
    let self = c.args.self.now in
    always_err c.from_residual-in_err-count_pass.result (λ i. record {
      state = c.in_err-count_pass.ensures.err i;
      version = self.version;
      known = version_of self.known;
      acked = version_of self.acked;
      last = last_changes (same i);
    })

pub invariant_of-self-2 : goal.invariant_of-self-2
invariant_of-self-2 g c =
    let version = c.args.self.now.version + 1 in
    let m = marks_value c.args.self.now.marks in
    let name = c.args.name.now in
    let hits : Option Counted = Some (Hits c.args.node) in
    let execs : Option Counted = c.executed-execs.result in
    let marked = lent_marked c.args.self.now.marks c.get_mut.follows.lender name c.in-Some.marks.now
    c.mark_pass.new.self c.get_mut.follows.holds (sym c.in-Some.ensures.value) hits execs version
    c.mark_pass.ensures.latest (c.mark_pass.ensures.key ∙ c.make_pass_room.ensures.key)
    (λ d. c.mark_pass.ensures.cells d ∙ ap (λ x. cond (is_of execs d) version (cond (is_of hits d) version x))
    (c.make_pass_room.ensures.cells d)) in
    record {
      upto = subst (λ (n : MarksValue). AreUpto n version) (sym marked)
          (upto_marked (with_mark name false hits version m) name false execs version version (omega arith)
          (upto_marked m name false hits c.args.self.now.version version (omega arith) c.args.self.now.upto));
    }

pub returns-clause-ok : goal.returns-clause-ok
unfolding value_of
returns-clause-ok g c =
    let state = g.R.Replica.state in
    let version = c.args.self.now.version + 1 in
    let m = marks_value c.args.self.now.marks in
    let name = c.args.name.now in
    let hits : Option Counted = Some (Hits c.args.node) in
    let other : Option Counted = c.executed-execs.result in
    let execs : Option Counted = option_map (λ term. Execs term c.args.node) c.args.spent in
    let marked = lent_marked c.args.self.now.marks c.get_mut.follows.lender name c.in-Some.marks.now
    c.mark_pass.new.self c.get_mut.follows.holds (sym c.in-Some.ensures.value) hits other version
    c.mark_pass.ensures.latest (c.mark_pass.ensures.key ∙ c.make_pass_room.ensures.key)
    (λ d. c.mark_pass.ensures.cells d ∙ ap (λ x. cond (is_of other d) version (cond (is_of hits d) version x))
    (c.make_pass_room.ensures.cells d)) in
    let both = marked ∙ ap (λ (e : Option Counted). with_mark name false e version
    (with_mark name false hits version m)) c.executed-execs.ensures in
    let v = state c.args.self.now.replica in
    let changed = changes_marked_twice v (with_pass name c.args.node c.args.spent v) (counts name hits execs)
    (pass_tells name c.args.node v c.args.spent) m name hits execs c.args.self.now.version version (omega arith)
    c.args.self.now.upto (λ n d. refl) in
    record {
      state_is = c.in_ok-count_pass.ensures.ok;
      version = refl;
      known = refl;
      acked = refl;
      last = subst (λ (n : MarksValue). ChangesAt v (state c.count_pass.new.self) version (last_changes m)
          (last_changes n)) (sym both)
          (subst (λ (w : State). ChangesAt v w version (last_changes m)
          (last_changes (with_mark name false execs version (with_mark name false hits version m))))
          (sym c.in_ok-count_pass.ensures.ok) changed);
    }

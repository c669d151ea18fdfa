use Rattle.std.proofs.Common.{◌+◌, ◌≡◌, false, Some, ap, sym, refl, ◌∙◌, subst, arith, Option, option_map}
use Rattle.replica_state.specs.States.{State, with_pass}
use Rattle.operations.specs.declared.counted.Counted.{Counted}
use Rattle.operations.specs.declared.counted.Counted.TheVariants.{Hits, Execs}
use Rattle.delta_exchange.specs.Changes.{ChangesAt}
use Rattle.delta_exchange.specs.Marks.{MarksValue, marks_value, last_changes, with_mark, AreUpto}
use Rattle.delta_exchange.specs.Versions.{value_of}
use Rattle.delta_exchange.proofs.ChangeLemmas.{upto_marked, changes_marked_twice}
use Rattle.delta_exchange.proofs.InPlace.{pass_tells, counts}
use Rattle.delta_exchange.proofs.versioned.Versioned.count_unmarked_pass.Goals as goal

pub invariant_of-self-2 : goal.invariant_of-self-2
invariant_of-self-2 g c =
    let version = c.args.self.now.version + 1 in
    let m = marks_value c.args.self.now.marks in
    let rooms : marks_value c.make_room-2.new.self ≡ m = c.in_ok-make_room-2.ensures.same ∙
    c.in_ok-make_room.ensures.same in
    let name = c.args.name.now in
    let hits : Option Counted = Some (Hits c.args.node) in
    let one : marks_value c.mark.new.self ≡ with_mark name false hits version m = c.mark.ensures.marks ∙
    ap (with_mark name false hits version) rooms in
    let other : marks_value c.mark-2.new.self ≡ with_mark name false c.executed-execs.result version
    (with_mark name false hits version m) = c.mark-2.ensures.marks ∙
    ap (with_mark name false c.executed-execs.result version) one in
    record {
      upto = subst (λ (n : MarksValue). AreUpto n version) (sym other)
          (upto_marked (with_mark name false hits version m) name false c.executed-execs.result version version
          (omega arith)
          (upto_marked m name false hits c.args.self.now.version version (omega arith) c.args.self.now.upto));
    }

pub returns-clause-ok : goal.returns-clause-ok
unfolding value_of
returns-clause-ok g c =
    let state = g.R.Replica.state in
    let version = c.args.self.now.version + 1 in
    let m = marks_value c.args.self.now.marks in
    let rooms : marks_value c.make_room-2.new.self ≡ m = c.in_ok-make_room-2.ensures.same ∙
    c.in_ok-make_room.ensures.same in
    let name = c.args.name.now in
    let hits : Option Counted = Some (Hits c.args.node) in
    let execs : Option Counted = option_map (λ term. Execs term c.args.node) c.args.spent in
    let one : marks_value c.mark.new.self ≡ with_mark name false hits version m = c.mark.ensures.marks ∙
    ap (with_mark name false hits version) rooms in
    let other : marks_value c.mark-2.new.self ≡ with_mark name false execs version
    (with_mark name false hits version m) = c.mark-2.ensures.marks ∙
    ap (with_mark name false c.executed-execs.result version) one ∙
    ap (λ (e : Option Counted). with_mark name false e version (with_mark name false hits version m))
    c.executed-execs.ensures in
    let v = state c.args.self.now.replica in
    let changed = changes_marked_twice v (with_pass name c.args.node c.args.spent v) (counts name hits execs)
    (pass_tells name c.args.node v c.args.spent) m name hits execs c.args.self.now.version version (omega arith)
    c.args.self.now.upto (λ n d. refl) in
    record {
      state_is = c.in_ok-count_pass.ensures.ok;
      version = refl;
      known = refl;
      acked = refl;
      last = subst (λ (n : MarksValue). ChangesAt v (state c.count_pass.new.self) version (last_changes m)
          (last_changes n)) (sym other)
          (subst (λ (w : State). ChangesAt v w version (last_changes m)
          (last_changes (with_mark name false execs version (with_mark name false hits version m))))
          (sym c.in_ok-count_pass.ensures.ok) changed);
    }

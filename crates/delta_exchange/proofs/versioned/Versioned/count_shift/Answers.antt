use Rattle.std.proofs.Common.{◌+◌, ◌≡◌, ◌&&◌, false, Some, ap, sym, refl, ◌∙◌, subst, arith, Option}
use Rattle.std.specs.Str.{bytes_eq}
use Rattle.replica_state.specs.States.{State, with_shifts}
use Rattle.operations.specs.Counts.{same_counted}
use Rattle.operations.specs.declared.counted.Counted.{Counted}
use Rattle.operations.specs.declared.counted.Counted.TheVariants.{Shifts}
use Rattle.delta_exchange.specs.Changes.{ChangesAt}
use Rattle.delta_exchange.specs.Marks.{MarksValue, marks_value, last_changes, with_mark, AreUpto}
use Rattle.delta_exchange.specs.Versions.{value_of}
use Rattle.delta_exchange.proofs.ChangeLemmas.{upto_marked, changes_marked, no_key}
use Rattle.delta_exchange.proofs.InPlace.{shift_tells}
use Rattle.delta_exchange.proofs.versioned.Versioned.count_shift.Goals as goal

pub invariant_of-self-2 : goal.invariant_of-self-2
invariant_of-self-2 g c =
    let version = c.args.self.now.version + 1 in
    let m = marks_value c.args.self.now.marks in
    let name = c.args.name.now in
    let shifts : Option Counted = Some (Shifts c.args.term c.args.from c.args.to) in
    let one : marks_value c.mark.new.self ≡ with_mark name false shifts version m = c.mark.ensures.marks ∙
    ap (with_mark name false shifts version) c.in_ok-make_room.ensures.same in
    record {
      upto = subst (λ (n : MarksValue). AreUpto n version) (sym one)
          (upto_marked m name false shifts c.args.self.now.version version (omega arith) c.args.self.now.upto);
    }

pub returns-clause-ok : goal.returns-clause-ok
unfolding value_of
returns-clause-ok g c =
    let state = g.R.Replica.state in
    let version = c.args.self.now.version + 1 in
    let m = marks_value c.args.self.now.marks in
    let name = c.args.name.now in
    let shifts : Option Counted = Some (Shifts c.args.term c.args.from c.args.to) in
    let one : marks_value c.mark.new.self ≡ with_mark name false shifts version m = c.mark.ensures.marks ∙
    ap (with_mark name false shifts version) c.in_ok-make_room.ensures.same in
    let v = state c.args.self.now.replica in
    let w = with_shifts name c.args.term c.args.from c.args.to c.args.total v in
    let changed = changes_marked v w (λ n. false) (λ n d. bytes_eq name n && same_counted
    (Shifts c.args.term c.args.from c.args.to) d) (shift_tells name c.args.term c.args.from c.args.to c.args.total v
    c.requires.more) m name false shifts c.args.self.now.version version (omega arith) c.args.self.now.upto
    (λ n. no_key name n) (λ n d. refl) in
    record {
      state_is = c.in_ok-count_shift.ensures.ok;
      version = refl;
      known = refl;
      acked = refl;
      last = subst (λ (n : MarksValue). ChangesAt v (state c.count_shift.new.self) version (last_changes m)
          (last_changes n)) (sym one)
          (subst (λ (x : State). ChangesAt v x version (last_changes m)
          (last_changes (with_mark name false shifts version m))) (sym c.in_ok-count_shift.ensures.ok) changed);
    }

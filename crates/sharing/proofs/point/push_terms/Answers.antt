use Rattle.std.proofs.Common.{◌≡◌, ◌++◌, ℕ, List, [], ap, refl, sym, ◌∙◌, arith}
use Rattle.std.specs.List.{flat_map, range_with_len}
use Rattle.std.proofs.lemmas.List.{append-nil}
use Rattle.actions.specs.Limits.{max_terms}
use Rattle.sharing.specs.Shares.{term_shifts}
use Rattle.sharing.specs.declared.shift.Shift.{Shift}
use Rattle.sharing.proofs.Alike.{kept_twice, room_kept}
use Rattle.sharing.proofs.Given.{none_flat, none_to_nobody}
use Rattle.sharing.proofs.Lines.{nobody_in}
use Rattle.sharing.proofs.Walks.{added, flat_of_next}
use Rattle.sharing.proofs.point.push_terms.Goals as goal

pub returns-then-is_empty : goal.returns-then-is_empty
returns-then-is_empty g c = record {
  shifts = λ v same.
      let name = c.args.name.now in
      let node = c.args.giver.node in
      let still = c.args.giver.still in
      let items = c.args.shifts.now.items in
      let none = ap (λ o. flat_map (term_shifts v name node still o) (range_with_len 0 max_terms))
      (nobody_in c.args.room.now.others c.if-is_empty.ensures)
      ∙ none_flat (term_shifts v name node still []) (none_to_nobody v name node still) (range_with_len 0 max_terms) in
      sym (append-nil items) ∙ ap (λ xs. items ++ xs) (sym none);
  kept = record { rights = refl; executions = refl; others = refl };
}

pub push_term-requires : goal.push_term-requires
push_term-requires g c = room_kept c.args.room.now c.loop-term.room c.requires c.loop-term.invariant.kept

pub loop-term-preserved : goal.loop-term-preserved
loop-term-preserved g c = record {
  kept = kept_twice c.args.room.now c.loop-term.room c.push_term.new.room c.loop-term.invariant.kept
      c.push_term.ensures.kept;
  shifts = λ v same.
      let shifts : List ℕ → ℕ → List Shift = term_shifts v c.args.name.now c.args.giver.node c.args.giver.still in
      let others = c.args.room.now.others.items in
      let term = c.loop-term.term in
      added c.args.shifts.now.items (flat_map (shifts others) (range_with_len 0 term)) (shifts others term)
      (c.in_ok-push_term.ensures.shifts v same
      ∙ ap (λ o. c.loop-term.shifts.items ++ shifts o term) c.loop-term.invariant.kept.others)
      (c.loop-term.invariant.shifts v same) (sym (flat_of_next (shifts others) term));
}

pub returns : goal.returns
returns g c = record {
  shifts = λ v same.
      let shifts : ℕ → List Shift =
      term_shifts v c.args.name.now c.args.giver.node c.args.giver.still c.args.room.now.others.items in
      let end : c.loop-term.term ≡ max_terms = omega (arith, c.loop-term-test.false, c.loop-term.auto.term-end) in
      c.loop-term.invariant.shifts v same
      ∙ ap (λ n. c.args.shifts.now.items ++ flat_map shifts (range_with_len 0 n)) end;
  kept = c.loop-term.invariant.kept;
}

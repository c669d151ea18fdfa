use Rattle.std.proofs.Common.{◌≡◌, ℕ, ◌<◌, false, map, take, slice_index_or}
use Rattle.actions.specs.Value.{term_value}
use Rattle.actions.specs.Choice.{words_needed, triggers}
use Rattle.actions.proofs.choice.first_triggered.Given as goal

abbrev pub invariant-loop-index : goal.invariant-loop-index
invariant-loop-index l = record {
  used : l.next ≡ words_needed (take l.index (map term_value l.terms));
  none : (j : ℕ) → j < l.index → triggers (map term_value l.terms) l.words (λ k. slice_index_or l.may k false) j ≡
      false;
}

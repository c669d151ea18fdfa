use Rattle.std.proofs.Common.{sym, Some, None, ◌<◌, length, map, ◌∙◌, arith, below_more, slice_index_or, false}
use Rattle.std.proofs.lemmas.List.{length-map}
use Rattle.actions.specs.Value.{term_value}
use Rattle.actions.proofs.ChoiceLemmas.{used_more, used_same, word_left, triggers_at, choice_from_first}
use Rattle.actions.proofs.choice.first_triggered.Goals as goal
use Rattle.actions.proofs.choice.first_triggered.Goals.{then-takes_word, else-takes_word}

pub is_triggered-requires : goal.is_triggered-requires
is_triggered-requires c =
    let i = c.loop-index.index in
    let t = c.index-terms-index.result in
    word_left c.args.terms.now i t c.loop-index.next _ c.loop-index-test.true c.index-terms-index.is
    c.loop-index.invariant.used
    c.requires.words

pub loop-index-preserved : goal.loop-index-preserved
loop-index-preserved c =
    let terms = c.args.terms.now in
    let i = c.loop-index.index in
    let t = c.index-terms-index.result in
    let lt = c.loop-index-test.true in
    let at = c.index-terms-index.is in
    let found =
    triggers_at terms c.args.words.now (λ k. slice_index_or c.args.may.now k false) i t c.loop-index.next _ lt at
    c.loop-index.invariant.used c.is_triggered.ensures in
    record {
      used =
          elim c.if-takes_word.branch [
            | then-takes_word w ↦
                let more = used_more terms i t lt at (sym c.takes_word.ensures ∙ w.if-takes_word.true) in
                omega (arith, w.next-is, c.loop-index.invariant.used, more)
            | else-takes_word w ↦
                let same = used_same terms i t lt at (sym c.takes_word.ensures ∙ w.if-takes_word.false) in
                omega (arith, w.next-is, c.loop-index.invariant.used, same)
          ];
      none = below_more _ _ c.loop-index.invariant.none (found ∙ c.if-is_triggered.false);
    }

pub returns-then-is_triggered : goal.returns-then-is_triggered
returns-then-is_triggered c =
    let terms = c.args.terms.now in
    let i = c.loop-index.index in
    let within : i < length (map term_value terms) =
    omega (arith, length-map terms term_value, c.loop-index-test.true) in
    let t = c.index-terms-index.result in
    let lt = c.loop-index-test.true in
    let at = c.index-terms-index.is in
    let found =
    triggers_at terms c.args.words.now (λ k. slice_index_or c.args.may.now k false) i t c.loop-index.next _ lt at
    c.loop-index.invariant.used c.is_triggered.ensures in
    choice_from_first (map term_value terms) c.args.words.now _ (Some i)
    (within, found ∙ c.if-is_triggered.true, c.loop-index.invariant.none)

pub returns : goal.returns
returns c =
    let terms = c.args.terms.now in
    choice_from_first (map term_value terms) c.args.words.now _ None
    (λ j low. c.loop-index.invariant.none j (omega (arith, length-map terms term_value, c.loop-index-test.false)))

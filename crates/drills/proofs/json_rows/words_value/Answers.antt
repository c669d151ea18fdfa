use Rattle.std.proofs.Common.{arith, map, ap, ◌∙◌}
use Rattle.std.proofs.lemmas.Grind.{common_steps}
use Rattle.std.proofs.lemmas.List.{get_or_default, take_all}
use Rattle.serde_json.specs.Data.{array}
use Rattle.serde_json.specs.View.{items_of}
use Rattle.serde_json.proofs.Views.{view-Array}
use Rattle.drills.specs.Rows.{count_data}
use Rattle.drills.proofs.json_rows.words_value.Goals as goal

pub loop-word-preserved : goal.loop-word-preserved
loop-word-preserved c = grind (arith, common_steps)

pub returns-clause-value : goal.returns-clause-value
returns-clause-value c =
    view-Array c.loop-word.values ∙ ap (λ ds. array (items_of ds))
    (c.loop-word.invariant ∙ ap (map count_data) (take_all c.loop-word.word-index c.args.words.now
    c.loop-word-test.false))

pub returns-clause-fits : goal.returns-clause-fits
returns-clause-fits c = λ k d below. rw (get_or_default c.args.words.now k d 0 below) ((c.type_inv.words k).fits)

use Rattle.std.proofs.Common.{arith, ◌≡◌, ◌+◌, suc, [], ◌∷◌, ◌++◌, ap, ◌∙◌, add-one}
use Rattle.std.proofs.lemmas.Grind.{common_steps}
use Rattle.drill_picture.specs.Budgets.{budget_told}
use Rattle.drill_picture.specs.Charts.{columns_below, levels_below}
use Rattle.drill_picture.specs.Stories.{after_bin, story_behind, story_told}
use Rattle.drill_picture.proofs.column.columns_of.Goals as goal

pub loop-bin-preserved : goal.loop-bin-preserved
loop-bin-preserved c =
    let traces = c.args.traces.now in
    let scale = c.args.scale.now in
    let places = c.args.places.now in
    let budget = budget_told c.args.budget.now in
    let bin = c.loop-bin.bin in
    let more = c.in_ok-add_column.ensures in
    let story : story_told c.add_column.new.story ≡ story_behind traces scale places budget (suc bin) =
    more.story ∙ ap (after_bin traces scale places budget bin) c.loop-bin.invariant.story in
    record {
      story = rw add-one story;
      columns = rw add-one (more.columns
          ∙ ap (λ columns. columns ++ levels_below c.add_column.new.story.row scale.nodes ∷ []) c.loop-bin.invariant.columns
          ∙ ap (λ s. columns_below traces scale places budget bin ++ levels_below s.row scale.nodes ∷ []) story);
      few = more.few ∙ ap (λ n. n + 1) c.loop-bin.invariant.few;
    }

pub returns-clause-columns : goal.returns-clause-columns
returns-clause-columns c = grind (arith, common_steps)

pub returns-clause-last : goal.returns-clause-last
returns-clause-last c = grind (arith, common_steps)

pub returns-clause-few : goal.returns-clause-few
returns-clause-few c = grind (arith, common_steps)

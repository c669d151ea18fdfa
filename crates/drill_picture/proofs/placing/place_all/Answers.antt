use Rattle.std.proofs.Common.{arith, ◌∙◌}
use Rattle.std.proofs.lemmas.Grind.{common_steps}
use Rattle.drill_picture.proofs.Growing.{column_more}
use Rattle.drill_picture.proofs.placing.place_all.Goals as goal

pub loop-column-preserved : goal.loop-column-preserved
loop-column-preserved c = record {
  kept = c.in_ok-add_column.ensures.kept;
  places = column_more c.args.traces.now c.loop-column.column c.loop-column.board.places.items c.deref.result.now
      c.add_column.new.board.places.items c.loop-column.invariant.places (c.deref.ensures.value ∙ c.in_ok-stand.ensures)
      c.in_ok-add_column.ensures.places;
}

pub returns-then-is_empty : goal.returns-then-is_empty
returns-then-is_empty c = grind (arith, common_steps)

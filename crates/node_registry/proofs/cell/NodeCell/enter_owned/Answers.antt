use Rattle.rand_chacha.specs.ChaCha.{ChaCha}
use Rattle.node_calls.specs.declared.trace.Entry.{Entry}
use Rattle.node_core.specs.Traces.{Kept}
use Rattle.node_registry.proofs.EnteredCells.{Draws, entered, stays}
use Rattle.node_registry.proofs.cell.NodeCell.enter_owned.Goals as goal

pub invariant_of-self-2 : goal.invariant_of-self-2
invariant_of-self-2 c =
    let k : Kept = c.self.inside.core in
    let g : ChaCha = c.self.inside.generator in
    let arm = c.in-Ok in
    let e : Entry = record { ask = c.args.ask; words = arm.answered.0; reply = arm.answered.1 } in
    let new : Kept = c.call_with_words.new.core in
    let after : ChaCha = c.call_with_words.new.generator in
    let draws : Draws k new g after e = record {
      stream = c.self.invariant.0;
      accepted = arm.ensures.ok;
      words = arm.ensures.words;
      place = arm.ensures.place;
      few = arm.ensures.few;
      told = arm.ensures.told;
    } in
    stays k new g after e c.self.invariant draws

pub returns-clause-ok : goal.returns-clause-ok
returns-clause-ok c =
    let k : Kept = c.self.inside.core in
    let g : ChaCha = c.self.inside.generator in
    let arm = c.in-Ok in
    let e : Entry = record { ask = c.args.ask; words = arm.answered.0; reply = arm.answered.1 } in
    let new : Kept = c.call_with_words.new.core in
    let after : ChaCha = c.call_with_words.new.generator in
    let draws : Draws k new g after e = record {
      stream = c.self.invariant.0;
      accepted = arm.ensures.ok;
      words = arm.ensures.words;
      place = arm.ensures.place;
      few = arm.ensures.few;
      told = arm.ensures.told;
    } in
    rw (← c.self.view_is) (entered k new g after e draws)

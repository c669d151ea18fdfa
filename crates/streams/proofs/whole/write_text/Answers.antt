use Rattle.std.proofs.Common.{arith, rules}
use Rattle.std.proofs.lemmas.Grind.{common_steps}
use Rattle.streams.proofs.Flows.{GivesBefore-then}
use Rattle.streams.proofs.whole.write_text.Goals as goal

pub loop-rest-preserved : goal.loop-rest-preserved
loop-rest-preserved g c = record {
  given = GivesBefore-then c.in-Ok.count c.loop-rest.rest.now _ c.args.text.now _ _ _ c.loop-rest.invariant.given
      (search rules) (grind (arith, common_steps));
  failed = grind (arith, common_steps);
}

pub returns-clause-flushed : goal.returns-clause-flushed
returns-clause-flushed g c = grind (arith, common_steps)

pub returns-clause-ok : goal.returns-clause-ok
returns-clause-ok g c = grind (arith, common_steps)

use Rattle.std.proofs.Common.{rules, arith}
use Rattle.std.proofs.lemmas.Grind.{common_steps, rows, drop-set_at, drop_more_same}
use Rattle.std.proofs.lemmas.List.{length-set}
use Rattle.http_routes.proofs.Masking.{one_more}
use Rattle.http_routes.proofs.digest.masked.Goals as goal

pub loop-at-preserved : goal.loop-at-preserved
loop-at-preserved c = (
  search (rules, length-set),
  one_more _ _ _ _ (omega arith) (omega arith) c.loop-at.invariant.1 c.loop-at.invariant.2,
  grind (arith, common_steps, rows),
)

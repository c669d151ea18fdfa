use Rattle.std.proofs.Common.{inl}
use Rattle.http_routes.proofs.spreading.set_spread.Goals as goal

pub returns-in-Ok-set_spread : goal.returns-in-Ok-set_spread
returns-in-Ok-set_spread c =
    inl (inl (record {
      stamp = c.in-Ok-set_spread.stamp;
      made = c.in-Ok-set_spread.ensures.made;
      told = c.reply.ensures.accepted 0;
    }))

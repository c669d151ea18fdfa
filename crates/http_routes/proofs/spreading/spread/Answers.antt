use Rattle.std.proofs.Common.{ℕ, inl, ap, ◌∙◌}
use Rattle.std.specs.Prelude.{decimal}
use Rattle.http_routes.specs.Replies.{text_reply}
use Rattle.http_routes.proofs.spreading.spread.Goals as goal

pub returns-in-Ok-spread : goal.returns-in-Ok-spread
returns-in-Ok-spread c =
    inl (inl (record {
      made = c.in-Ok-spread.ensures.made;
      told = c.reply.ensures.accepted 0 ∙ ap (λ (n : ℕ). text_reply 200 (decimal n)) c.in-Ok-spread.ensures.kept;
    }))

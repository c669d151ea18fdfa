use Rattle.std.proofs.Common.{rules, ◌≡◌, ◌∙◌, ap, ◌-◌, ◌++◌, length, List, ℕ}
use Rattle.std.specs.Prelude.{replicate, drop}
use Rattle.std.proofs.lemmas.List.{drop-replicate}
use Rattle.http_routes.proofs.digest.padded.Goals as goal

pub returns : goal.returns
returns c =
    ap (λ (front : List ℕ). front ++ drop (length c.args.key.now) (replicate 64 0)) c.copy_from_slice.ensures.after
    ∙ ap (λ (end : List ℕ). c.args.key.now ++ end) (drop-replicate (length c.args.key.now) 64 0)

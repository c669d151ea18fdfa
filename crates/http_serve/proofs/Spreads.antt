-- A request to spread makes calls without random draws.
use Rattle.std.proofs.Common.{ℕ, List, [], Option, Some, None, inl, inr}
use Rattle.node_core.specs.Traces.{Kept}
use Rattle.node_registry.specs.Batches.{GoesOn}
use Rattle.http_routes.specs.Replies.{ReplyValue}
use Rattle.http_routes.specs.Answers.{Comes}
use Rattle.registry_sharing.proofs.MadeBatches.{is_set_goes, made_goes, not_set_goes, not_spread_goes}
use Rattle.node_sharing.specs.Spread.{spread_due}
use Rattle.http_serve.specs.Spreads.{spread_of}

pub spread_goes : (k : Kept) (name : List ℕ) (text : Option (List ℕ)) (new : Kept) (given : ReplyValue) →
    Comes k (spread_of name text) new given → GoesOn k new
spread_goes k name (Some text) new given (inl (inl h)) = is_set_goes k new name text h.stamp h.made
spread_goes k name (Some text) new given (inl (inr h)) = not_set_goes k new name text h.fault h.why
spread_goes k name (Some text) new given (inr none) = ([], none.0)
spread_goes k name None new given (inl (inl h)) = made_goes k (spread_due k name) new h.made
spread_goes k name None new given (inl (inr h)) = not_spread_goes k name new h.fault h.why
spread_goes k name None new given (inr none) = ([], none.0)

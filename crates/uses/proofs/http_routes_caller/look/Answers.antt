use Rattle.std.proofs.Common.{◌≡◌, codes, [], Option, Some, None, inl, inr}
use Rattle.node_core.specs.Traces.{Kept}
use Rattle.http_routes.specs.Paths.{TargetValue, target_of}
use Rattle.http_routes.specs.Paths as paths
use Rattle.http_routes.specs.Asked.{asked_by}
use Rattle.http_routes.specs.Replies.{ReplyValue, http_value}
use Rattle.http_routes.specs.Requests.{wanted_asked}
use Rattle.http_routes.specs.Answers.{Answers}
use Rattle.http_routes.specs.declared.table.RouteSet.TheVariants.{Node}
use Rattle.uses.proofs.http_routes_caller.look.Goals as goal

-- wherever a path leads, a `GET` asks no call
same : (k new : Kept) (given : ReplyValue) (target : Option TargetValue) →
    Answers k (wanted_asked (asked_by Node target (codes "GET")) []) new given → new ≡ k
same k new given target (inr none) = none.0
same k new given None (inl kept) = kept.0
same k new given (Some paths.page) (inl kept) = kept.0
same k new given (Some paths.points) (inl kept) = kept.0
same k new given (Some (paths.point name)) (inl kept) = kept.0
same k new given (Some paths.load) (inl kept) = kept.0
same k new given (Some (paths.spread name)) (inl kept) = kept.0
same k new given (Some (paths.shift name term to amount)) (inl kept) = kept.0
same k new given (Some (paths.grant name term amount)) (inl kept) = kept.0
same k new given (Some paths.gossip) (inl kept) = kept.0
same k new given (Some paths.hello) (inl kept) = kept.0
same k new given (Some paths.report) (inl kept) = kept.0
same k new given (Some paths.status) (inl kept) = kept.0
same k new given (Some paths.stop) (inl kept) = kept.0

pub returns : goal.returns
returns c = same c.args.node.now c.answer.new.core (http_value c.answer.result) (target_of c.args.path.now)
    c.answer.ensures

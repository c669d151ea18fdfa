-- The target of a route, with the parts that its names took from the path.
use Rattle.std.specs.Prelude.{ℕ, List, Option, Some, option_map, option_and_then, codes}
use Rattle.matchit.specs.Params.{walk, named}
use Rattle.matchit.specs.declared.params.Params.{Params}
use Rattle.http_routes.specs.declared.targets.RouteId.{RouteId}
use Rattle.http_routes.specs.declared.targets.RouteId.TheVariants as routes
use Rattle.http_routes.specs.Paths.{TargetValue, page, points, point, load, spread, shift, grant, gossip, hello, report, status, stop}

-- each name with its part
abbrev pub Taken : Type 0
Taken = List (List ℕ × List ℕ)

abbrev pub taken_by : Params → Taken
taken_by params = walk params.pattern.now params.text.now params.path.now params.names.now 0 0

abbrev pub point_of : Taken → Option TargetValue
point_of taken = option_map point (named (codes "name") taken)

abbrev pub spread_of : Taken → Option TargetValue
spread_of taken = option_map spread (named (codes "name") taken)

abbrev pub shift_of : Taken → Option TargetValue
shift_of taken =
    option_and_then (λ (name : List ℕ).
    option_and_then (λ (term : List ℕ).
    option_and_then (λ (to : List ℕ).
    option_map (λ (amount : List ℕ). shift name term to amount)
    (named (codes "amount") taken)) (named (codes "to") taken))
    (named (codes "term") taken)) (named (codes "name") taken)

abbrev pub grant_of : Taken → Option TargetValue
grant_of taken =
    option_and_then (λ (name : List ℕ).
    option_and_then (λ (term : List ℕ).
    option_map (λ (amount : List ℕ). grant name term amount)
    (named (codes "amount") taken)) (named (codes "term") taken)) (named (codes "name") taken)

abbrev pub with_parts : RouteId → Taken → Option TargetValue
with_parts routes.Page taken = Some page
with_parts routes.Points taken = Some points
with_parts routes.Point taken = point_of taken
with_parts routes.Load taken = Some load
with_parts routes.Spread taken = spread_of taken
with_parts routes.Shift taken = shift_of taken
with_parts routes.Grant taken = grant_of taken
with_parts routes.Gossip taken = Some gossip
with_parts routes.Hello taken = Some hello
with_parts routes.Report taken = Some report
with_parts routes.Status taken = Some status
with_parts routes.Stop taken = Some stop

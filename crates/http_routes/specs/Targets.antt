-- Where the program says that a path leads.
use Rattle.http_routes.specs.declared.targets.Target.{Target}
use Rattle.http_routes.specs.declared.targets.Target.TheVariants as targets
use Rattle.http_routes.specs.Paths.{TargetValue, page, points, point, load, spread, shift, grant, gossip, hello, report, status, stop}

abbrev pub target_value : Target → TargetValue
target_value targets.Page = page
target_value targets.Points = points
target_value (targets.Point name) = point name.now
target_value targets.Load = load
target_value (targets.Spread name) = spread name.now
target_value (targets.Shift name term to amount) = shift name.now term.now to.now amount.now
target_value (targets.Grant name term amount) = grant name.now term.now amount.now
target_value targets.Gossip = gossip
target_value targets.Hello = hello
target_value targets.Report = report
target_value targets.Status = status
target_value targets.Stop = stop

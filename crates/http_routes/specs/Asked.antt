-- What a method and a path ask for.
use Rattle.std.specs.Prelude.{ℕ, Bool, true, false, not, nat_lt, List, Option, Some, None, codes, bytes_eq, if◌then◌else◌}
use Rattle.std.specs.Cow.{cow_str_bytes}
use Rattle.decimals.specs.Decimals.{number_of}
use Rattle.message_format.specs.Spelling.{max_message}
use Rattle.http_routes.specs.Paths.{TargetValue, target_of}
use Rattle.http_routes.specs.Paths as paths
use Rattle.http_routes.specs.Table.{has_method, includes, row_of}
use Rattle.http_routes.specs.declared.table.Keeps.{Keeps}
use Rattle.http_routes.specs.declared.table.Keeps.TheVariants.{Nothing}
use Rattle.http_routes.specs.declared.table.Methods.{Methods}
use Rattle.http_routes.specs.declared.table.RouteSet.{RouteSet}
use Rattle.http_routes.specs.declared.table.Row.{Row}
use Rattle.http_routes.specs.declared.request.RequestFault.{RequestFault}
use Rattle.http_routes.specs.declared.request.RequestFault.TheVariants as faults
use Rattle.http_routes.specs.declared.request.NodeRequest.{NodeRequest}
use Rattle.http_routes.specs.declared.request.NodeRequest.TheVariants as of_node
use Rattle.http_routes.specs.declared.request.Request.{Request}
use Rattle.http_routes.specs.declared.request.Request.TheVariants as requests
use Rattle.http_routes.specs.declared.request.Asked.{Asked}
use Rattle.http_routes.specs.declared.request.Asked.TheVariants as asks

-- what is asked of a node; or nothing, since a part of the path should be a number, and is none
pub data NodeRequestValue : Type 0 where
  list : NodeRequestValue
  report : NodeRequestValue
  status : NodeRequestValue
  set : (name : List ℕ) → NodeRequestValue
  remove : (name : List ℕ) → NodeRequestValue
  load : NodeRequestValue
  set_spread : (name : List ℕ) → NodeRequestValue
  spread : (name : List ℕ) → NodeRequestValue
  shift : (name : List ℕ) (term to amount : ℕ) → NodeRequestValue
  grant : (name : List ℕ) (term amount : ℕ) → NodeRequestValue
  deliver : NodeRequestValue
  bad_number : NodeRequestValue

-- what is asked of a program: its page, that it tells another node, its end, or something of its node
pub data RequestValue : Type 0 where
  page : RequestValue
  hello : RequestValue
  stop : RequestValue
  node : (request : NodeRequestValue) → RequestValue

-- what a method and a path ask for: nothing, since no route has the path, or its route has these methods alone; or this,
-- by the row of the route
pub data AskedValue : Type 0 where
  nowhere : AskedValue
  other_method : (methods : Methods) → AskedValue
  known : (request : RequestValue) (row : Row) → AskedValue

abbrev pub node_request_value : NodeRequest → NodeRequestValue
node_request_value of_node.List = list
node_request_value of_node.Report = report
node_request_value of_node.Status = status
node_request_value (of_node.Set name) = set (cow_str_bytes name)
node_request_value (of_node.Remove name) = remove (cow_str_bytes name)
node_request_value of_node.Load = load
node_request_value (of_node.SetSpread name) = set_spread (cow_str_bytes name)
node_request_value (of_node.Spread name) = spread (cow_str_bytes name)
node_request_value (of_node.Shift name term to amount) = shift (cow_str_bytes name) term to amount
node_request_value (of_node.Grant name term amount) = grant (cow_str_bytes name) term amount
node_request_value of_node.Deliver = deliver
node_request_value of_node.BadNumber = bad_number

abbrev pub request_value : Request → RequestValue
request_value requests.Page = page
request_value requests.Hello = hello
request_value requests.Stop = stop
request_value (requests.Node request) = node (node_request_value request)

abbrev pub asked_value : Asked → AskedValue
asked_value asks.Nowhere = nowhere
asked_value (asks.OtherMethod methods) = other_method methods
asked_value (asks.Known request row) = known (request_value request) row

-- the greatest amount of rights
abbrev pub max_amount : ℕ
max_amount = 18446744073709551615

abbrev pub shift_asked : List ℕ → Option ℕ → Option ℕ → Option ℕ → NodeRequestValue
shift_asked name (Some term) (Some to) (Some amount) = shift name term to amount
shift_asked name _ _ _ = bad_number

abbrev pub grant_asked : List ℕ → Option ℕ → Option ℕ → NodeRequestValue
grant_asked name (Some term) (Some amount) = grant name term amount
grant_asked name _ _ = bad_number

-- what one of its methods asks for at a route: where it has two, `PUT` or the other one
abbrev pub request_at : TargetValue → Bool → RequestValue
request_at paths.page is_put = page
request_at paths.hello is_put = hello
request_at paths.stop is_put = stop
request_at paths.points is_put = node list
request_at paths.report is_put = node report
request_at paths.status is_put = node status
request_at (paths.point name) true = node (set name)
request_at (paths.point name) false = node (remove name)
request_at paths.load is_put = node load
request_at (paths.spread name) true = node (set_spread name)
request_at (paths.spread name) false = node (spread name)
request_at (paths.shift name term to amount) is_put =
    node (shift_asked name (number_of 255 term) (number_of 255 to) (number_of max_amount amount))
request_at (paths.grant name term amount) is_put =
    node (grant_asked name (number_of 255 term) (number_of max_amount amount))
request_at paths.gossip is_put = node deliver

-- what a method asks for at a route, of a program with these routes
abbrev pub asked_at : RouteSet → TargetValue → List ℕ → AskedValue
asked_at offered target method =
    if not (includes offered (row_of target).set) then nowhere
    else (if not (has_method (row_of target).methods method) then other_method (row_of target).methods
    else known (request_at target (bytes_eq method (codes "PUT"))) (row_of target))

abbrev pub asked_by : RouteSet → Option TargetValue → List ℕ → AskedValue
asked_by offered None method = nowhere
asked_by offered (Some target) method = asked_at offered target method

abbrev pub asked_of : RouteSet → List ℕ → List ℕ → AskedValue
asked_of offered method path = asked_by offered (target_of path) method

-- ---- what nothing is asked by

abbrev pub fault_status : RequestFault → ℕ
fault_status faults.NotFound = 404
fault_status faults.BadMethod = 405
fault_status faults.TooLong = 413
fault_status faults.BadText = 400
fault_status faults.BadNumber = 400

abbrev pub fault_text : RequestFault → List ℕ
fault_text faults.NotFound = codes "not found"
fault_text faults.BadMethod = codes "bad method"
fault_text faults.TooLong = codes "too long"
fault_text faults.BadText = codes "bad text"
fault_text faults.BadNumber = codes "bad number"

-- what is kept of the body of a request: what its route keeps
abbrev pub keeps_of : AskedValue → Keeps
keeps_of (known request row) = row.keeps
keeps_of _ = Nothing

-- of several faults the first: no route, another method, a body of more bytes than the longest message has
abbrev pub fault_of : AskedValue → ℕ → Option RequestFault
fault_of nowhere size = Some faults.NotFound
fault_of (other_method methods) size = Some faults.BadMethod
fault_of (known request row) size = if nat_lt max_message size then Some faults.TooLong else None

-- Routes may go to another thread, and may be lent to one, as a field of who holds them. A router's tree holds
-- trees, so this is shown by a step: where it holds of the nodes below, it holds of a node.
use denote.Param.Send.{IsSend, IsSync, sendable}
use denote.Model.Local.{Parts, rows}
use denote.Model.Marks.{tied_send, tied_sync}
use denote.Model.Goals.{has_of, send, sync}
use Rattle.std.proofs.Crossing.{crosses}
use Rattle.matchit.specs.contracts.tree.Node as Node
use Rattle.matchit.specs.contracts.tree.Node.TheKnot as knot
use Rattle.matchit.specs.declared.tree.Node.TheDeep as deep
use Rattle.http_routes.specs.contracts.paths.Routes as Routes
use Rattle.http_routes.specs.contracts.targets.RouteId as RouteId

fields_send : (p : Parts knot.frame) → IsSend (rows knot.frame p deep.member-Node) → IsSend (knot.at-Node p)
fields_send p below = search (crosses, sendable) depth 30

fields_sync : (p : Parts knot.frame) → IsSync (rows knot.frame p deep.member-Node) → IsSync (knot.at-Node p)
fields_sync p below = search (crosses, sendable) depth 30

step_send : (p : Parts knot.frame) → ((j : deep.the_members) → IsSend (rows knot.frame p j)) → (i : deep.the_members) →
    IsSend (rows knot.frame (knot.step p) i)
step_send p below deep.member-Node =
    let fields = fields_send p (below deep.member-Node) in
    has_of knot.frame send (knot.step p) deep.member-Node (λ d vs x. (fields.owned x.0 vs, tt))

step_sync : (p : Parts knot.frame) → ((j : deep.the_members) → IsSync (rows knot.frame p j)) → (i : deep.the_members) →
    IsSync (rows knot.frame (knot.step p) i)
step_sync p below deep.member-Node =
    let fields = fields_sync p (below deep.member-Node) in
    has_of knot.frame sync (knot.step p) deep.member-Node (λ d b o κ x. (fields.shared x.0 b o κ, tt))

node_send : IsSend Node.the_row
node_send = tied_send knot.frame knot.step knot.sizes step_send deep.member-Node

node_sync : IsSync Node.the_row
node_sync = tied_sync knot.frame knot.step knot.sizes step_sync deep.member-Node

route_send : IsSend RouteId.the_row
route_send = search sendable depth 30

route_sync : IsSync RouteId.the_row
route_sync = search sendable depth 30

pub routes_send : IsSend (Routes.the_field).row
routes_send = search (crosses, sendable, node_send, route_send) depth 30

pub routes_sync : IsSync (Routes.the_field).row
routes_sync = search (crosses, sendable, node_sync, route_sync) depth 30

-- The routes as the router has them.
use Rattle.std.specs.Prelude.{◌≡◌, ℕ, List, [], ◌∷◌, ◌++◌, None, Result, Ok, Err, codes}
use Rattle.matchit.specs.Order.{placed}
use Rattle.matchit.specs.Rows.{RowsOf, param_token}
use Rattle.matchit.specs.Route.{Scan}
use Rattle.matchit.specs.Router.{RouteOf, nearest, route_from}
use Rattle.matchit.specs.declared.error.InsertError.{InsertError}
use Rattle.http_routes.specs.declared.targets.RouteId.{RouteId}
use Rattle.http_routes.specs.declared.targets.RouteId.TheVariants as routes

-- a route with no part left open
abbrev pub plain_row : List ℕ → RouteId → List ℕ × RouteOf RouteId
plain_row text id = (text, record { pattern = text; text = text; names = []; value = id })

abbrev pub open_row : List ℕ → List ℕ → List (ℕ × ℕ) → RouteId → List ℕ × RouteOf RouteId
open_row pattern text names id = (pattern, record { pattern = pattern; text = text; names = names; value = id })

abbrev pub any : List ℕ
any = param_token ∷ []

-- in the router's order
abbrev pub route_rows : RowsOf (RouteOf RouteId)
route_rows =
    open_row (codes "/fail/" ++ any) (codes "/fail/{name}") ((7, 11) ∷ []) routes.Point
    ∷ plain_row (codes "/fail/") routes.Points
    ∷ plain_row (codes "/fail") routes.Points
    ∷ plain_row (codes "/gossip") routes.Gossip
    ∷ open_row (codes "/grant/" ++ any ++ codes "/" ++ any ++ codes "/" ++ any)
    (codes "/grant/{name}/{term}/{amount}") ((8, 12) ∷ (15, 19) ∷ (22, 28) ∷ []) routes.Grant
    ∷ plain_row (codes "/hello") routes.Hello
    ∷ plain_row (codes "/load") routes.Load
    ∷ plain_row (codes "/report") routes.Report
    ∷ open_row (codes "/shift/" ++ any ++ codes "/" ++ any ++ codes "/" ++ any ++ codes "/" ++ any)
    (codes "/shift/{name}/{term}/{to}/{amount}")
    ((8, 12) ∷ (15, 19) ∷ (22, 24) ∷ (27, 33) ∷ []) routes.Shift
    ∷ open_row (codes "/spread/" ++ any) (codes "/spread/{name}") ((9, 13) ∷ []) routes.Spread
    ∷ plain_row (codes "/status") routes.Status
    ∷ plain_row (codes "/stop") routes.Stop
    ∷ plain_row (codes "/") routes.Page
    ∷ []

-- a route that can be read, and that none of these stands in the way of
abbrev pub IsFree : Result Scan InsertError → RowsOf (RouteOf RouteId) → Type 0
IsFree (Ok route) rows = nearest route.pattern rows ≡ None
IsFree (Err fault) rows = ⊥

-- these with one more, in its place
abbrev pub with_route : Result Scan InsertError → RouteId → RowsOf (RouteOf RouteId) → RowsOf (RouteOf RouteId)
with_route (Ok route) id rows = placed (route.pattern, route_from route id) rows
with_route (Err fault) id rows = rows

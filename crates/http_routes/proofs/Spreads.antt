-- A node alone is asked for no spread.
use Rattle.std.proofs.Common.{◌≡◌, ℕ, Bool, true, false, List, Option, Some, None, refl}
use Rattle.std.specs.Prelude.{if◌then◌else◌, bytes_eq, codes, length, nat_lt, not}
use Rattle.message_format.specs.Spelling.{max_message}
use Rattle.decimals.specs.Decimals.{number_of}
use Rattle.node_calls.specs.Told.{AskTold}
use Rattle.http_routes.specs.Paths.{TargetValue, target_of}
use Rattle.http_routes.specs.Paths as paths
use Rattle.http_routes.specs.Asked.{AskedValue, NodeRequestValue, RequestValue, asked_at, asked_by, grant_asked, known, max_amount, node, other_method, request_at, shift_asked}
use Rattle.http_routes.specs.Asked as asks
use Rattle.http_routes.specs.Table.{has_method, row_of}
use Rattle.http_routes.specs.declared.table.Row.{Row}
use Rattle.http_routes.specs.declared.table.RouteSet.TheVariants.{Node}
use Rattle.http_routes.specs.Requests.{WantedValue, call_of, refused, text_in, texted_by, wanted, wanted_asked, wanted_of}
use Rattle.http_routes.specs.Requests as wants

unfoldable pub IsNoSpread : WantedValue → Type 0
IsNoSpread (wants.sets_spread name text) = ⊥
IsNoSpread (wants.spreads name) = ⊥
IsNoSpread _ = Unit {0}

-- what is asked of a node, but a spread
IsPlain : RequestValue → Type 0
IsPlain (asks.node (asks.set_spread name)) = ⊥
IsPlain (asks.node (asks.spread name)) = ⊥
IsPlain _ = Unit {0}

plain_text : (f : List ℕ → AskTold) (text : Option (List ℕ)) → IsNoSpread (texted_by (call_of f) text)
unfolding IsNoSpread
plain_text f None = tt
plain_text f (Some text) = tt

plain_wanted : (request : NodeRequestValue) (body : List ℕ) → IsPlain (node request) → IsNoSpread (wanted_of request body)
unfolding IsNoSpread IsPlain
plain_wanted asks.list body plain = tt
plain_wanted asks.report body plain = tt
plain_wanted asks.status body plain = tt
plain_wanted (asks.set name) body plain = plain_text _ (text_in body)
plain_wanted (asks.remove name) body plain = tt
plain_wanted asks.load body plain = plain_text _ (text_in body)
plain_wanted (asks.set_spread name) body plain = absurd plain
plain_wanted (asks.spread name) body plain = absurd plain
plain_wanted (asks.shift name term to amount) body plain = tt
plain_wanted (asks.grant name term amount) body plain = tt
plain_wanted asks.deliver body plain = tt
plain_wanted asks.bad_number body plain = tt

plain_known : (request : RequestValue) (row : Row) (body : List ℕ) (is_long : Bool) → nat_lt max_message (length body) ≡ is_long
    → IsPlain request → IsNoSpread (wanted_asked (known request row) body)
unfolding IsNoSpread IsPlain
plain_known request row body true e plain = rw e tt
plain_known asks.page row body false e plain = rw e tt
plain_known asks.hello row body false e plain = rw e tt
plain_known asks.stop row body false e plain = rw e tt
plain_known (asks.node request) row body false e plain = rw e (plain_wanted request body plain)

plain_shift : (name : List ℕ) (term to amount : Option ℕ) → IsPlain (node (shift_asked name term to amount))
unfolding IsPlain
plain_shift name None to amount = tt
plain_shift name (Some term) None amount = tt
plain_shift name (Some term) (Some to) None = tt
plain_shift name (Some term) (Some to) (Some amount) = tt

plain_grant : (name : List ℕ) (term amount : Option ℕ) → IsPlain (node (grant_asked name term amount))
unfolding IsPlain
plain_grant name None amount = tt
plain_grant name (Some term) None = tt
plain_grant name (Some term) (Some amount) = tt

plain_point : (name : List ℕ) (is_put : Bool) → IsPlain (request_at (paths.point name) is_put)
unfolding IsPlain
plain_point name true = tt
plain_point name false = tt

plain_if : (target : TargetValue) (method body : List ℕ) (has : Bool) → has_method (row_of target).methods method ≡ has
    → IsPlain (request_at target (bytes_eq method (codes "PUT")))
    → IsNoSpread (wanted_asked (if not has then other_method (row_of target).methods
    else known (request_at target (bytes_eq method (codes "PUT"))) (row_of target)) body)
unfolding IsNoSpread IsPlain
plain_if target method body false e plain = tt
plain_if target method body true e plain = plain_known _ (row_of target) body _ refl plain

plain_at : (target : TargetValue) (method body : List ℕ) → IsNoSpread (wanted_asked (asked_at Node target method) body)
unfolding IsNoSpread IsPlain
plain_at paths.page method body = tt
plain_at paths.points method body = plain_if paths.points method body _ refl tt
plain_at (paths.point name) method body = plain_if (paths.point name) method body _ refl (plain_point name _)
plain_at paths.load method body = plain_if paths.load method body _ refl tt
plain_at (paths.spread name) method body = tt
plain_at (paths.shift name term to amount) method body =
    plain_if (paths.shift name term to amount) method body _ refl
    (plain_shift name (number_of 255 term) (number_of 255 to) (number_of max_amount amount))
plain_at (paths.grant name term amount) method body =
    plain_if (paths.grant name term amount) method body _ refl
    (plain_grant name (number_of 255 term) (number_of max_amount amount))
plain_at paths.gossip method body = plain_if paths.gossip method body _ refl tt
plain_at paths.hello method body = tt
plain_at paths.report method body = plain_if paths.report method body _ refl tt
plain_at paths.status method body = plain_if paths.status method body _ refl tt
plain_at paths.stop method body = tt

plain_by : (target : Option TargetValue) (method body : List ℕ) → IsNoSpread (wanted_asked (asked_by Node target method) body)
unfolding IsNoSpread
plain_by None method body = tt
plain_by (Some target) method body = plain_at target method body

pub no_spread : (method path body : List ℕ) → IsNoSpread (wanted method path body)
no_spread method path body = plain_by (target_of path) method body

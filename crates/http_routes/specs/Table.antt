-- The table of requests: what is to be known of each route.
use Rattle.std.specs.Prelude.{ℕ, ◌||◌, Bool, true, false, nat_le, List, codes, bytes_eq}
use Rattle.actions.specs.Limits.{max_text, max_setting}
use Rattle.http_routes.specs.Paths.{TargetValue}
use Rattle.http_routes.specs.Paths as paths
use Rattle.http_routes.specs.declared.table.RouteSet.{RouteSet}
use Rattle.http_routes.specs.declared.table.RouteSet.TheVariants as sets
use Rattle.http_routes.specs.declared.table.Methods.{Methods}
use Rattle.http_routes.specs.declared.table.Methods.TheVariants.{Get, Post, PutOrDelete, PutOrPost}
use Rattle.http_routes.specs.declared.table.Kind.{Kind}
use Rattle.http_routes.specs.declared.table.Kind.TheVariants as kinds
use Rattle.http_routes.specs.declared.table.Content.{Content}
use Rattle.http_routes.specs.declared.table.Content.TheVariants as contents
use Rattle.http_routes.specs.declared.table.Tagging.{Tagging}
use Rattle.http_routes.specs.declared.table.Tagging.TheVariants.{Tagged, Untagged}
use Rattle.http_routes.specs.declared.table.Keeps.{Keeps}
use Rattle.http_routes.specs.declared.table.Keeps.TheVariants.{Nothing, Text, Whole}
use Rattle.http_routes.specs.declared.table.Row.{Row}

-- a route whose replies are texts without a tag, and whose requests need no body
abbrev pub text_row : RouteSet → Methods → Kind → Row
text_row set methods kind =
    record {
      set = set;
      methods = methods;
      kind = kind;
      content = contents.Text;
      tagging = Untagged;
      keeps = Nothing;
    }

-- the table. The status is asked for again and again, and is mostly what it was
abbrev pub row_of : TargetValue → Row
row_of paths.page = record (text_row sets.Served Get kinds.Page) { content = contents.Page }
row_of paths.points = text_row sets.Node Get kinds.Read
row_of (paths.point name) = record (text_row sets.Node PutOrDelete kinds.Call) { keeps = Text max_text }
row_of paths.load = record (text_row sets.Node Post kinds.Call) { keeps = Text max_setting }
row_of (paths.spread name) = record (text_row sets.Library PutOrPost kinds.Call) { keeps = Text max_text }
row_of (paths.shift name term to amount) = text_row sets.Node Post kinds.Call
row_of (paths.grant name term amount) = text_row sets.Node Post kinds.Call
row_of paths.gossip = record (text_row sets.Node Post kinds.Delivery) { keeps = Whole }
row_of paths.hello = record (text_row sets.Cluster Post kinds.Hello) { keeps = Whole }
row_of paths.report = record (text_row sets.Node Get kinds.Read) { content = contents.Json }
row_of paths.status = record (text_row sets.Node Get kinds.Status) { content = contents.Json; tagging = Tagged }
row_of paths.stop = text_row sets.Program Post kinds.Stop

abbrev pub rank_of : RouteSet → ℕ
rank_of sets.Node = 0
rank_of sets.Library = 1
rank_of sets.Cluster = 2
rank_of sets.Served = 3
rank_of sets.Program = 4

-- whether a set has the routes of another
abbrev pub includes : RouteSet → RouteSet → Bool
includes set other = nat_le (rank_of other) (rank_of set)

-- whether a method is one of these
abbrev pub has_method : Methods → List ℕ → Bool
has_method Get method = bytes_eq method (codes "GET")
has_method Post method = bytes_eq method (codes "POST")
has_method PutOrDelete method = bytes_eq method (codes "PUT") || bytes_eq method (codes "DELETE")
has_method PutOrPost method = bytes_eq method (codes "PUT") || bytes_eq method (codes "POST")

abbrev pub methods_text : Methods → List ℕ
methods_text Get = codes "GET"
methods_text Post = codes "POST"
methods_text PutOrDelete = codes "PUT, DELETE"
methods_text PutOrPost = codes "PUT, POST"

-- whether a request waits until each other node was heard, at a node that hears them first
abbrev pub waits : Kind → Bool
waits kinds.Call = true
waits _ = false

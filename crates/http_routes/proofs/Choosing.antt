-- The router's rows give each path the route that is found from its first byte on.
use Rattle.std.proofs.Common.{◌≡◌, ℕ, List, [], ◌∷◌, ◌++◌, length, drop, Some, None, Bool, true, false, cond, refl, ◌∙◌, arith, nat_eq, ◌==◌}
use Rattle.std.proofs.lemmas.Bool.Decides.{nat_tests}
use Rattle.std.specs.Prelude.{codes, not, nat_lt}
use Rattle.std.specs.List.{starts_with}
use Rattle.matchit.specs.Rows.{RowsOf, param_token}
use Rattle.matchit.specs.Router.{RouteOf}
use Rattle.matchit.specs.Seek.{first, has_slash, seek}
use Rattle.http_routes.specs.declared.targets.RouteId.{RouteId}
use Rattle.http_routes.specs.declared.targets.RouteId.TheVariants as routes
use Rattle.http_routes.specs.Rows.{route_rows}
use Rattle.http_routes.proofs.Found.{Found, plain, point_row, spread_row, grant_row, shift_row, on_start, at_end, named_point, in_points, spreads, grants, shifts, root, end_of_root, from_gossip, from_grant, from_hello, from_load, from_report, from_shift, from_spread, from_status, from_stop, row_of, has_part, after_slash, next_part, last_part, nowhere}
use Rattle.http_routes.proofs.Seeking.{behind, choose, none_along, seek-empty, first-end, part-end, part-row}

abbrev Routes : Type 0
Routes = RowsOf (RouteOf RouteId)

-- one route, and one that ends here
abbrev only : List ℕ → RouteOf RouteId → Routes
only t r = (t, r) ∷ []

abbrev ending : List ℕ → RouteId → Routes
ending text id = only [] (plain text id)

both : (b : Bool) (x y u v : Found) → x ≡ u → y ≡ v → cond b x y ≡ cond b u v
both true x y u v p q = p
both false x y u v p q = q

-- rows that begin with a word, and others, none of which goes on along it
word-same : (w : List ℕ) (t rest : Routes) (inside other : List ℕ → Found) → none_along w rest ≡ true →
    ((p : List ℕ) → first t p ≡ inside p) → ((p : List ℕ) → first rest p ≡ other p) → (path : List ℕ)
    → first (behind w t ++ rest) path ≡ on_start w inside other path
word-same w t rest inside other apart f g path =
    choose w t rest path apart
    ∙ both (starts_with nat_eq path w) (first t (drop (length w) path)) (first rest path)
    (inside (drop (length w) path)) (other path) (f (drop (length w) path)) (g path)

end-same : (text : List ℕ) (id : RouteId) (rest : List ℕ) → first (ending text id) rest ≡ at_end (plain text id) rest
end-same text id rest = first-end (plain text id) rest

-- a route that a slash leads to
abbrev slashed : List ℕ → RouteOf RouteId → Routes
slashed t r = behind (codes "/") (only t r) ++ []

module _ (w : List ℕ) (rest : Routes) (other : List ℕ → Found) (apart : none_along w rest ≡ true)
    (same : (p : List ℕ) → first rest p ≡ other p) where
  -- a word with nothing behind it
  alone-same : (id : RouteId) (path : List ℕ) → first (behind w (ending (47 ∷ w) id) ++ rest) path ≡ on_start w
      (at_end (plain (47 ∷ w) id)) other path
  alone-same id path =
      word-same w (ending (47 ∷ w) id) rest (at_end (plain (47 ∷ w) id)) other apart (end-same (47 ∷ w) id) same path

  -- a word with parts behind it
  open-same : (t : List ℕ) (r : RouteOf RouteId) (f : List ℕ → Found) → ((p : List ℕ) → first (only t r) p ≡ f p)
      → (path : List ℕ) → first (behind w (slashed t r) ++ rest) path ≡ on_start w (on_start (codes "/") f nowhere)
      other path
  open-same t r f h path =
      word-same w (slashed t r) rest (on_start (codes "/") f nowhere) other apart
      (word-same (codes "/") (only t r) [] f nowhere refl h (seek-empty 0)) same path

-- ---- after `fail`

abbrev name_rows : Routes
name_rows = (param_token ∷ [], point_row) ∷ ending (codes "/fail/") routes.Points

named-same : (rest : List ℕ) → first name_rows rest ≡ named_point rest
unfolding seek
named-same [] = refl
named-same (b ∷ q) =
    let n : (length (b ∷ q) == 0) ≡ false = grind (arith, nat_tests) in
    let l : nat_lt 0 (length (b ∷ q)) ≡ true = grind (arith, nat_tests) in
    part-end point_row b q (ending (codes "/fail/") routes.Points) refl refl refl
    ∙ rw (n, l) (named (has_slash (b ∷ q)))
  where
    named : (v : Bool) → cond v None (Some point_row) ≡ cond (not v) (Some point_row) None
    named true = refl
    named false = refl

abbrev fail_rows : Routes
fail_rows = behind (codes "/") name_rows ++ ending (codes "/fail") routes.Points

points-same : (rest : List ℕ) → first fail_rows rest ≡ in_points rest
points-same rest =
    word-same (codes "/") name_rows (ending (codes "/fail") routes.Points) named_point
    (at_end (plain (codes "/fail") routes.Points)) refl named-same (end-same (codes "/fail") routes.Points) rest

-- ---- parts that are left open

next-same : (r : RouteOf RouteId) (t : List ℕ) (f : List ℕ → Found) → ((p : List ℕ) → first ((t, r) ∷ []) p ≡ f p)
    → (rest : List ℕ) → first ((param_token ∷ 47 ∷ t, r) ∷ []) rest ≡ next_part f rest
unfolding seek
next-same r t f h [] = refl
next-same r t f h (b ∷ q) =
    part-row r t b q
    ∙ both (has_part (b ∷ q)) (first ((t, r) ∷ []) (after_slash (b ∷ q))) None (f (after_slash (b ∷ q))) None
    (h (after_slash (b ∷ q))) refl

last-same : (r : RouteOf RouteId) (rest : List ℕ) → first ((param_token ∷ [], r) ∷ []) rest ≡ last_part r rest
unfolding seek
last-same r [] = refl
last-same r (b ∷ q) =
    let l : nat_lt 0 (length (b ∷ q)) ≡ true = grind (arith, nat_tests) in
    part-end r b q [] refl refl refl ∙ rw l (named (has_slash (b ∷ q)))
  where
    named : (v : Bool) → cond v None (Some r) ≡ cond (not v) (Some r) None
    named true = refl
    named false = refl

abbrev parts3 : List ℕ
parts3 = param_token ∷ 47 ∷ param_token ∷ 47 ∷ param_token ∷ []

grant-same : (rest : List ℕ) → first ((parts3, grant_row) ∷ []) rest ≡ grants rest
grant-same rest =
    next-same grant_row (param_token ∷ 47 ∷ param_token ∷ []) (next_part (last_part grant_row))
    (next-same grant_row (param_token ∷ []) (last_part grant_row) (last-same grant_row))
    rest

abbrev parts4 : List ℕ
parts4 = param_token ∷ 47 ∷ param_token ∷ 47 ∷ param_token ∷ 47 ∷ param_token ∷ []

shift-same : (rest : List ℕ) → first ((parts4, shift_row) ∷ []) rest ≡ shifts rest
shift-same rest =
    next-same shift_row (param_token ∷ 47 ∷ param_token ∷ 47 ∷ param_token ∷ [])
    (next_part (next_part (last_part shift_row)))
    (next-same shift_row (param_token ∷ 47 ∷ param_token ∷ []) (next_part (last_part shift_row))
    (next-same shift_row (param_token ∷ []) (last_part shift_row) (last-same shift_row)))
    rest

-- ---- after the first slash, from one word on

abbrev end_rows : Routes
end_rows = ending (codes "/") routes.Page

end-of-root : (rest : List ℕ) → first end_rows rest ≡ end_of_root rest
end-of-root [] = end-same (codes "/") routes.Page []
end-of-root (b ∷ q) =
    let n : (length (b ∷ q) == 0) ≡ false = grind (arith, nat_tests) in
    end-same (codes "/") routes.Page (b ∷ q) ∙ rw n refl

abbrev stop_rows : Routes
stop_rows = behind (codes "stop") (ending (codes "/stop") routes.Stop) ++ end_rows

from-stop : (rest : List ℕ) → first stop_rows rest ≡ from_stop rest
from-stop rest = alone-same (codes "stop") end_rows end_of_root refl end-of-root routes.Stop rest

abbrev status_rows : Routes
status_rows = behind (codes "status") (ending (codes "/status") routes.Status) ++ stop_rows

from-status : (rest : List ℕ) → first status_rows rest ≡ from_status rest
from-status rest = alone-same (codes "status") stop_rows from_stop refl from-stop routes.Status rest

abbrev spread_rows : Routes
spread_rows = behind (codes "spread") (slashed (param_token ∷ []) spread_row) ++ status_rows

from-spread : (rest : List ℕ) → first spread_rows rest ≡ from_spread rest
from-spread rest =
    open-same (codes "spread") status_rows from_status refl from-status (param_token ∷ []) spread_row spreads
    (last-same spread_row) rest

abbrev shift_rows : Routes
shift_rows = behind (codes "shift") (slashed parts4 shift_row) ++ spread_rows

from-shift : (rest : List ℕ) → first shift_rows rest ≡ from_shift rest
from-shift rest =
    open-same (codes "shift") spread_rows from_spread refl from-spread parts4 shift_row shifts shift-same rest

abbrev report_rows : Routes
report_rows = behind (codes "report") (ending (codes "/report") routes.Report) ++ shift_rows

from-report : (rest : List ℕ) → first report_rows rest ≡ from_report rest
from-report rest = alone-same (codes "report") shift_rows from_shift refl from-shift routes.Report rest

abbrev load_rows : Routes
load_rows = behind (codes "load") (ending (codes "/load") routes.Load) ++ report_rows

from-load : (rest : List ℕ) → first load_rows rest ≡ from_load rest
from-load rest = alone-same (codes "load") report_rows from_report refl from-report routes.Load rest

abbrev hello_rows : Routes
hello_rows = behind (codes "hello") (ending (codes "/hello") routes.Hello) ++ load_rows

from-hello : (rest : List ℕ) → first hello_rows rest ≡ from_hello rest
from-hello rest = alone-same (codes "hello") load_rows from_load refl from-load routes.Hello rest

abbrev grant_rows : Routes
grant_rows = behind (codes "grant") (slashed parts3 grant_row) ++ hello_rows

from-grant : (rest : List ℕ) → first grant_rows rest ≡ from_grant rest
from-grant rest =
    open-same (codes "grant") hello_rows from_hello refl from-hello parts3 grant_row grants grant-same rest

abbrev gossip_rows : Routes
gossip_rows = behind (codes "gossip") (ending (codes "/gossip") routes.Gossip) ++ grant_rows

from-gossip : (rest : List ℕ) → first gossip_rows rest ≡ from_gossip rest
from-gossip rest = alone-same (codes "gossip") grant_rows from_grant refl from-grant routes.Gossip rest

abbrev root_rows : Routes
root_rows = behind (codes "fail") fail_rows ++ gossip_rows

root-same : (rest : List ℕ) → first root_rows rest ≡ root rest
root-same rest = word-same (codes "fail") fail_rows gossip_rows in_points from_gossip refl points-same from-gossip rest

pub first_is : (path : List ℕ) → first route_rows path ≡ row_of path
unfolding row_of plain point_row spread_row grant_row shift_row
first_is path = word-same (codes "/") root_rows [] root nowhere refl root-same (seek-empty 0) path

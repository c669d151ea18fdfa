-- The route that the router finds for a path, read from its first byte on.
use Rattle.std.specs.Prelude.{ℕ, ◌==◌, ◌&&◌, Bool, not, nat_lt, nat_eq, List, [], ◌∷◌, ◌++◌, length, drop, if◌then◌else◌, Option, Some, None, codes}
use Rattle.std.specs.List.{starts_with}
use Rattle.matchit.specs.Router.{RouteOf}
use Rattle.matchit.specs.Seek.{has_slash}
use Rattle.http_routes.specs.declared.targets.RouteId.{RouteId}
use Rattle.http_routes.specs.declared.targets.RouteId.TheVariants as routes
use Rattle.http_routes.specs.Rows.{any}
use Rattle.http_routes.specs.Paths.{slash}

-- ---- the routes

unfoldable pub plain : List ℕ → RouteId → RouteOf RouteId
plain text id = record { pattern = text; text = text; names = []; value = id }

unfoldable pub point_row : RouteOf RouteId
point_row =
    record {
      pattern = codes "/fail/" ++ any;
      text = codes "/fail/{name}";
      names = (7, 11) ∷ [];
      value = routes.Point;
    }

unfoldable pub spread_row : RouteOf RouteId
spread_row =
    record {
      pattern = codes "/spread/" ++ any;
      text = codes "/spread/{name}";
      names = (9, 13) ∷ [];
      value = routes.Spread;
    }

unfoldable pub grant_row : RouteOf RouteId
grant_row =
    record {
      pattern = codes "/grant/" ++ any ++ codes "/" ++ any ++ codes "/" ++ any;
      text = codes "/grant/{name}/{term}/{amount}";
      names = (8, 12) ∷ (15, 19) ∷ (22, 28) ∷ [];
      value = routes.Grant;
    }

unfoldable pub shift_row : RouteOf RouteId
shift_row =
    record {
      pattern = codes "/shift/" ++ any ++ codes "/" ++ any ++ codes "/" ++ any ++ codes "/" ++ any;
      text = codes "/shift/{name}/{term}/{to}/{amount}";
      names = (8, 12) ∷ (15, 19) ∷ (22, 24) ∷ (27, 33) ∷ [];
      value = routes.Shift;
    }

-- ---- what is found

abbrev pub Found : Type 0
Found = Option (RouteOf RouteId)

abbrev pub before_slash : List ℕ → List ℕ
before_slash [] = []
before_slash (b ∷ rest) = if b == slash then [] else b ∷ before_slash rest

abbrev pub after_slash : List ℕ → List ℕ
after_slash [] = []
after_slash (b ∷ rest) = if b == slash then rest else after_slash rest

-- whether a part that is left open stands here to the end
abbrev pub is_last_part : List ℕ → Bool
is_last_part text = nat_lt 0 (length text) && not (has_slash text)

-- whether such a part stands here, with a slash after it
abbrev pub has_part : List ℕ → Bool
has_part text = nat_lt 0 (length (before_slash text)) && has_slash text

-- what is found after this beginning; for a path without it, what another finds
abbrev pub on_start : List ℕ → (List ℕ → Found) → (List ℕ → Found) → List ℕ → Found
on_start start inside other path = if starts_with nat_eq path start then inside (drop (length start) path) else other
    path

abbrev pub nowhere : List ℕ → Found
nowhere path = None

abbrev pub at_end : RouteOf RouteId → List ℕ → Found
at_end row rest = if length rest == 0 then Some row else None

abbrev pub last_part : RouteOf RouteId → List ℕ → Found
last_part row rest = if is_last_part rest then Some row else None

abbrev pub next_part : (List ℕ → Found) → List ℕ → Found
next_part inside rest = if has_part rest then inside (after_slash rest) else None

-- after `/fail/`: a name, or nothing
abbrev pub named_point : List ℕ → Found
named_point rest = if length rest == 0 then Some (plain (codes "/fail/") routes.Points) else last_part point_row rest

-- after `/fail`
abbrev pub in_points : List ℕ → Found
in_points rest = on_start (codes "/") named_point (at_end (plain (codes "/fail") routes.Points)) rest

-- after `/spread/`, `/grant/` and `/shift/`
abbrev pub spreads : List ℕ → Found
spreads rest = last_part spread_row rest

abbrev pub grants : List ℕ → Found
grants rest = next_part (next_part (last_part grant_row)) rest

abbrev pub shifts : List ℕ → Found
shifts rest = next_part (next_part (next_part (last_part shift_row))) rest

-- after the first slash, from one word on; what ends there is the page
abbrev pub end_of_root : List ℕ → Found
end_of_root [] = Some (plain (codes "/") routes.Page)
end_of_root more = None

abbrev pub from_stop : List ℕ → Found
from_stop rest = on_start (codes "stop") (at_end (plain (codes "/stop") routes.Stop)) end_of_root rest

abbrev pub from_status : List ℕ → Found
from_status rest = on_start (codes "status") (at_end (plain (codes "/status") routes.Status)) from_stop rest

abbrev pub from_spread : List ℕ → Found
from_spread rest = on_start (codes "spread") (on_start (codes "/") spreads nowhere) from_status rest

abbrev pub from_shift : List ℕ → Found
from_shift rest = on_start (codes "shift") (on_start (codes "/") shifts nowhere) from_spread rest

abbrev pub from_report : List ℕ → Found
from_report rest = on_start (codes "report") (at_end (plain (codes "/report") routes.Report)) from_shift rest

abbrev pub from_load : List ℕ → Found
from_load rest = on_start (codes "load") (at_end (plain (codes "/load") routes.Load)) from_report rest

abbrev pub from_hello : List ℕ → Found
from_hello rest = on_start (codes "hello") (at_end (plain (codes "/hello") routes.Hello)) from_load rest

abbrev pub from_grant : List ℕ → Found
from_grant rest = on_start (codes "grant") (on_start (codes "/") grants nowhere) from_hello rest

abbrev pub from_gossip : List ℕ → Found
from_gossip rest = on_start (codes "gossip") (at_end (plain (codes "/gossip") routes.Gossip)) from_grant rest

abbrev pub root : List ℕ → Found
root rest = on_start (codes "fail") in_points from_gossip rest

unfoldable pub row_of : List ℕ → Found
row_of path = on_start (codes "/") root nowhere path

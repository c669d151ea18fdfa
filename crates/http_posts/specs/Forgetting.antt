-- What a peer's answer says of the peer.
use Rattle.std.specs.Prelude.{◌==◌, ℕ, not, List, take, codes, bytes_eq, if◌then◌else◌, Option, Some, None}
use Rattle.http_posts.specs.declared.forgetting.Forgetting.{Forgetting}
use Rattle.http_posts.specs.declared.forgetting.Forgetting.TheVariants.{OwnAhead, AckAhead}

-- that it refuses a message since others know more of it than it does
abbrev pub forgetting_in : ℕ → List ℕ → Option Forgetting
forgetting_in status body =
    if not (status == 400) then None
    else (if bytes_eq (take 4 body) (codes "N18 ") then Some OwnAhead
    else (if bytes_eq (take 4 body) (codes "N19 ") then Some AckAhead else None))

-- its number and name
abbrev pub forgetting_text : Forgetting → List ℕ
forgetting_text OwnAhead = codes "N18 OwnAhead"
forgetting_text AckAhead = codes "N19 AckAhead"

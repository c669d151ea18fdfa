-- How a node asks another one to be told what that knows, whether or not it is news.
use Rattle.std.specs.Prelude.{ℕ, Bool, false, List, replicate, slice_get, codes, if◌then◌else◌, Option, Some, None, unwrap_or}
use Rattle.std.specs.Str.{is_utf8}
use Rattle.decimals.specs.Decimals.{byte_of}
use Rattle.message_format.specs.Limits.{max_nodes}
use Rattle.http_routes.specs.Replies.{ReplyValue, text_reply}
use Rattle.peers.specs.declared.heard.Cluster.{Cluster}
use Rattle.peers.specs.Heard.{is_peer}

-- another node of the cluster, if this is one
abbrev pub peer_in : Cluster → Option ℕ → Option ℕ
peer_in cluster None = None
peer_in cluster (Some node) = if is_peer cluster node then Some node else None

-- who asks: the body is its number, in decimal digits
abbrev pub asker_in : Cluster → List ℕ → Option ℕ
asker_in cluster body = if is_utf8 body then peer_in cluster (byte_of body) else None

-- what is answered to who asks
abbrev pub greeting_of : Option ℕ → ReplyValue
greeting_of (Some node) = text_reply 200 (codes "telling")
greeting_of None =
    text_reply 400 (codes "expected the number of the requesting node: another node of this cluster")

-- what is answered to who asks by this body
abbrev pub greeting : Cluster → List ℕ → ReplyValue
greeting cluster body = greeting_of (asker_in cluster body)

-- ---- who asked, and wasn't told since

abbrev pub nobody : List Bool
nobody = replicate max_nodes false

abbrev pub has_asked : List Bool → ℕ → Bool
has_asked asked node = unwrap_or (slice_get asked node) false

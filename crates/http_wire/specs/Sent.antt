-- What a wire has sent.
use Rattle.std.specs.declared.net.socket_addr.SocketAddr.{SocketAddr}
use Rattle.std.specs.Prelude.{◌≡◌, ℕ, List, [], ◌∷◌, ◌++◌, Option, Some, None, map}
use Rattle.http_body_util.specs.declared.full.Full.{Full}
use Rattle.hyper.specs.Request.{body_of}
use Rattle.hyper.specs.declared.Request.{Request}
use Rattle.gossip.specs.Traffic.{Traffic}
use Rattle.http_posts.specs.Answers.{status_of}
use Rattle.http_posts.specs.Posts.{Posts, PostsHello}
use Rattle.http_posts.specs.declared.answer.Posted.{Posted}
use Rattle.http_posts.specs.declared.key.Key.{Key}
use Rattle.http_posts.specs.declared.peer.Peer.{Peer}
use Rattle.http_wire.specs.Peers.{address_of}

abbrev pub bytes_or_none : Option (List ℕ) → List ℕ
bytes_or_none None = []
bytes_or_none (Some bytes) = bytes

-- the bytes of a request's body
abbrev pub bytes_of : Request (Full (List ℕ)) → List ℕ
bytes_of request = bytes_or_none (body_of request).buf

abbrev pub posted_value : Posted → ℕ × List ℕ
posted_value p = (p.peer.node, bytes_of p.request.value)

abbrev pub traffic_of : List Posted → Traffic
traffic_of sent = record { sent = map posted_value sent; taken = [] }

-- one message more was posted to a peer, with the key, if there is one, and answered with 200
pub record IsPostedTo (to : Peer) (key : Option Key) (message : List ℕ) (was now : List Posted) : Type 0 where
  pub last : Posted
  pub more : now ≡ was ++ last ∷ []
  pub peer : last.peer ≡ to
  pub posts : Posts last.peer.address key message last.request.value
  pub status : status_of last ≡ 200

-- so it was to the address that these peers have for the node
pub record IsSentTo (peers : List Peer) (key : Option Key) (to : ℕ) (message : List ℕ) (was now : List Posted) : Type 0 where
  pub last : Posted
  pub more : now ≡ was ++ last ∷ []
  pub node : last.peer.node ≡ to
  pub address : address_of peers to ≡ Some last.peer.address
  pub posts : Posts last.peer.address key message last.request.value
  pub status : status_of last ≡ 200

-- the number of a node that wants to be told was posted to a peer, with the key, if there is one, and answered with 200
pub record IsHelloTo (to : Peer) (key : Option Key) (own : ℕ) (was now : List Posted) : Type 0 where
  pub last : Posted
  pub more : now ≡ was ++ last ∷ []
  pub peer : last.peer ≡ to
  pub posts : PostsHello last.peer.address key own last.request.value
  pub status : status_of last ≡ 200

-- a node, at the address that these peers have for it
abbrev pub peer_at : ℕ → SocketAddr → Peer
peer_at node address = record { node = node; address = address }

-- Where other nodes are served.
use Rattle.std.specs.Prelude.{ℕ, ◌==◌, Bool, List, Option, option_map, is_some}
use Rattle.std.specs.List.{find}
use Rattle.std.specs.declared.net.socket_addr.SocketAddr.{SocketAddr}
use Rattle.http_posts.specs.declared.peer.Peer.{Peer}

-- the address of a node: of two peers with its number, the first one's
abbrev pub address_of : List Peer → ℕ → Option SocketAddr
address_of peers node = option_map (λ peer. peer.address) (find (λ peer. peer.node == node) peers)

-- whether a peer has its number
abbrev pub has_peer : List Peer → ℕ → Bool
has_peer peers node = is_some (address_of peers node)

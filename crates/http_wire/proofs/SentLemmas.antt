-- What is sent when one message more is posted.
use Rattle.std.proofs.Common.{◌≡◌, ◌==◌, ℕ, if◌then◌else◌, List, [], ◌∷◌, ◌++◌, Option, Some, None, length, map, ap, ap₂, sym, ◌∙◌, refl, arith}
use Rattle.std.proofs.lemmas.List.{map-append}
use Rattle.gossip.proofs.RangeLemmas.{unequal}
use Rattle.gossip.specs.Traffic.{Traffic, sends}
use Rattle.http_posts.specs.declared.key.Key.{Key}
use Rattle.http_posts.specs.declared.answer.Posted.{Posted}
use Rattle.http_posts.specs.declared.peer.Peer.{Peer}
use Rattle.std.specs.declared.net.socket_addr.SocketAddr.{SocketAddr}
use Rattle.http_wire.specs.Peers.{address_of}
use Rattle.http_wire.specs.Sent.{IsPostedTo, IsSentTo, bytes_or_none, peer_at, posted_value, traffic_of}

whole : (message : List ℕ) → bytes_or_none (if length message == 0 then None else Some message) ≡ message
whole [] = refl
whole (byte ∷ bytes) =
    ap (λ b. bytes_or_none (if b then None else Some (byte ∷ bytes)))
    (unequal (length (byte ∷ bytes)) 0 (λ e. omega (arith, e)))

abbrev traffic_with : List (ℕ × List ℕ) → Traffic
traffic_with sent = record { sent = sent; taken = [] }

pub sent_more : {peers : List Peer} {key : Option Key} {to : ℕ} {message : List ℕ} {was now : List Posted} →
    IsSentTo peers key to message was now → traffic_of now ≡ sends to message (traffic_of was)
sent_more {message = message} {was = was} s =
    ap traffic_with (
    ap (map posted_value) s.more ∙ map-append posted_value was (s.last ∷ [])
    ∙ ap (λ p. map posted_value was ++ p ∷ [])
    (ap₂ (λ n b. (n, b)) s.node (ap bytes_or_none s.posts.body ∙ whole message))
    )

-- a message that was posted to the peer at a node's address was sent to the node
pub sent_at : {peers : List Peer} {key : Option Key} {to : ℕ} {address : SocketAddr} {message : List ℕ}
    {was now : List Posted} → address_of peers to ≡ Some address → IsPostedTo (peer_at to address) key message was now →
    IsSentTo peers key to message was now
sent_at is p = record {
  last = p.last;
  more = p.more;
  node = ap (λ peer. peer.node) p.peer;
  address = is ∙ ap (λ peer. Some peer.address) (sym p.peer);
  posts = p.posts;
  status = p.status;
}

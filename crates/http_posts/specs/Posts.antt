-- What is posted.
use Rattle.std.specs.Prelude.{◌≡◌, ◌==◌, if◌then◌else◌, ℕ, List, [], ◌∷◌, ◌++◌, length, codes, decimal, string_bytes, Option, Some, None}
use Rattle.std.specs.Net.Addr.{ipv4_octets, ipv6_segments}
use Rattle.std.specs.Net.Socket.{v4_ip, v4_port, v6_ip, v6_port}
use Rattle.std.specs.Net.Text.{ipv4_text, ipv6_text}
use Rattle.std.specs.declared.net.socket_addr.SocketAddr.{SocketAddr}
use Rattle.std.specs.declared.net.socket_addr.SocketAddr.TheVariants.{V4, V6}
use Rattle.http_body_util.specs.declared.full.Full.{Full}
use Rattle.http_header.specs.FieldValue.{FieldValue, plain_value}
use Rattle.http_header.specs.HeaderMap.{Entries, insert}
use Rattle.hyper.specs.Request.{head_of, body_of}
use Rattle.hyper.specs.Uri.{Spells}
use Rattle.hyper.specs.declared.Request.{Request}
use Rattle.http_posts.specs.declared.key.Key.{Key}
use Rattle.http_routes.specs.Digests.{digest_text, mac_text}
use Rattle.http_routes.specs.declared.digest.TheConstants.{DIGEST_FIELD, MAC_FIELD}
use Rattle.http_routes.specs.declared.table.TheConstants.{GOSSIP_PATH, HELLO_PATH}

-- how a request names its server: by the address, without a scope, which means something to this machine alone
abbrev pub host_text : SocketAddr → List ℕ
host_text (V4 a) = ipv4_text (ipv4_octets (v4_ip a)) ++ (codes ":" ++ decimal (v4_port a))
host_text (V6 a) = codes "[" ++ (ipv6_text (ipv6_segments (v6_ip a)) ++ (codes "]:" ++ decimal (v6_port a)))

abbrev pub host_field : SocketAddr → List ℕ × List FieldValue
host_field address = (codes "host", plain_value (host_text address) ∷ [])

abbrev pub key_field : Key → List ℕ × List FieldValue
key_field key = (codes "authorization", plain_value (string_bytes key.credentials) ∷ [])

-- the fields of a head: the server, and the key, if there is one
abbrev pub fields_of : SocketAddr → Option Key → Entries FieldValue
fields_of address None = host_field address ∷ []
fields_of address (Some key) = host_field address ∷ key_field key ∷ []

-- with the digest of a message
abbrev pub digested : Entries FieldValue → List ℕ → Entries FieldValue
digested fields message = insert fields DIGEST_FIELD.now (plain_value (digest_text message))

-- with what shows that a message is as it was sent: its digest and, if there is a key, its authentication code
abbrev pub sealed : Entries FieldValue → Option Key → List ℕ → Entries FieldValue
sealed fields None message = digested fields message
sealed fields (Some key) message =
    insert (digested fields message) MAC_FIELD.now (plain_value (mac_text key.bytes.items message))

-- the fields of a message
abbrev pub message_fields_of : SocketAddr → Option Key → List ℕ → Entries FieldValue
message_fields_of address key message = sealed (fields_of address key) key message

-- these bytes are posted to a path, each of them, with these fields
pub record PostsTo (path : List ℕ) (fields : Entries FieldValue) (bytes : List ℕ) (request : Request (Full (List ℕ))) :
    Type 0 where
  pub method : (head_of request).method ≡ codes "POST"
  pub uri : Spells path (head_of request).uri
  pub headers : (head_of request).headers ≡ fields
  pub body : (body_of request).buf ≡ (if length bytes == 0 then None else Some bytes)

-- a message is posted to the path of messages of the server at an address, with what shows that it is as it was sent
abbrev pub Posts : SocketAddr → Option Key → List ℕ → Request (Full (List ℕ)) → Type 0
Posts address key message request =
    PostsTo GOSSIP_PATH.now (message_fields_of address key message) message request

-- the number of a node that asks for messages is posted to the path of hellos
abbrev pub PostsHello : SocketAddr → Option Key → ℕ → Request (Full (List ℕ)) → Type 0
PostsHello address key node request = PostsTo HELLO_PATH.now (fields_of address key) (decimal node) request
